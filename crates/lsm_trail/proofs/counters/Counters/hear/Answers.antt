use Rattle.std.proofs.Common.{rules, ap, ◌∙◌, arith}
use Rattle.lsm_trail.specs.Knowledge.{known_of, told_to}
use Rattle.lsm_trail.specs.Steps.{heard}
use Rattle.lsm_trail.proofs.Passes.{hears_at, looks_at, looked}
use Rattle.lsm_trail.proofs.counters.Counters.hear.Goals as goal

pub join_seat-requires : goal.join_seat-requires
join_seat-requires g c = (
  search rules,
  search rules,
  ap (λ m. m.1) c.requires.told.1,
  omega (arith, c.args.self.now.wide, ap (λ t. t.words) c.args.self.now.table),
  hears_at _ _ _ _ _ _ _ (ap (λ m. m.0) c.requires.client.1) (ap (λ m. m.0) c.requires.told.1),
)

pub load-requires : goal.load-requires
load-requires g c =
    let is = c.join_seat.ensures.2 ∙ (λ i. (heard ((c.requires.client.1 i).0) ((c.requires.told.1 i).0), (c.requires.client.1 i).1)) in
    (search rules, omega (arith, c.args.self.now.wide, ap (λ t. t.words) c.args.self.now.table), looks_at _ _ _ _ _ _ is)

pub returns : goal.returns
returns g c =
    let is = c.join_seat.ensures.2 ∙ (λ i. (heard ((c.requires.client.1 i).0) ((c.requires.told.1 i).0), (c.requires.client.1 i).1)) in
    let t = looked g.B.SessionName.id (told_to c.args.told) (known_of c.args.client.now) _ c.load.new.seat _ is c.requires.client.2 (c.load.ensures.0 ∙ (c.join_seat.ensures.0 ∙ c.requires.client.0)) c.load.ensures.2 in
    record { client = t.0; sees = t.1; heard = t.2 }
