use Rattle.std.proofs.Common.{ap, ◌∙◌, rules, arith}
use Rattle.lsm_trail.proofs.Passes.{tells_at, stays}
use Rattle.lsm_trail.proofs.counters.Counters.tell.Goals as goal

pub split_seat-requires : goal.split_seat-requires
split_seat-requires g c = (search rules, omega (arith, c.args.self.now.wide, ap (λ t. t.words) c.args.self.now.table), tells_at _ _ _ _ (ap (λ m. m.0) c.requires.1))

pub returns : goal.returns
returns g c =
    let e = c.split_seat.ensures in
    let t = stays _ c.args.client.now c.split_seat.new.seat c.requires e.0 (e.2 ∙ ((λ i. ((c.requires.1 i).0, (c.requires.1 i).1)))) in
    record { client = t; told = (e.3 ∙ c.requires.0, e.4) }
