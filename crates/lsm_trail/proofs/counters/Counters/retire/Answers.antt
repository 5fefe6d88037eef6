use Rattle.std.proofs.Common.{rules, [], ap, sym, ◌∙◌, arith}
use Rattle.lsm_trail.specs.Knowledge.{keeping, view_of, keeper_of, known_of}
use Rattle.lsm_trail.proofs.Passes.{lends_at, compares_at, compared}
use Rattle.lsm_trail.proofs.counters.Counters.retire.Goals as goal

pub join_seat-requires : goal.join_seat-requires
join_seat-requires g c = (
  search rules,
  search rules,
  ap (λ m. m.1) c.requires.client.1,
  omega (arith, c.args.self.now.wide, ap (λ t. t.words) c.args.self.now.table),
  lends_at _ _ _ _ _ _ _ (ap (λ m. m.0) c.requires.keeper.1) (ap (λ m. m.0) c.requires.client.1),
)

pub load-requires : goal.load-requires
load-requires g c =
    let is = c.join_seat.ensures.2 ∙ (λ i. (view_of ((c.requires.keeper.1 i).0.keeper) ((c.requires.client.1 i).0.client), (c.requires.keeper.1 i).1)) in
    (search rules, omega (arith, c.args.self.now.wide, ap (λ t. t.words) c.args.self.now.table), compares_at _ _ _ _ _ _ is)

pub returns : goal.returns
returns g c =
    let is = c.join_seat.ensures.2 ∙ (λ i. (view_of ((c.requires.keeper.1 i).0.keeper) ((c.requires.client.1 i).0.client), (c.requires.keeper.1 i).1)) in
    let k = keeping g.B.SessionName.id.begin (keeper_of c.args.keeper.now).dealt (keeper_of c.args.keeper.now).log [] in
    let t = compared k (known_of c.args.client) _ c.load.new.seat.me is c.load.ensures.2 in
    record { keeper = (search rules, t.0 ∙ sym c.requires.keeper.1); seen = t.1; calls = t.2; strangers = t.3 }
