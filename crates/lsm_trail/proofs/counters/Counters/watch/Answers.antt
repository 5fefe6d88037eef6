use Rattle.std.proofs.Common.{ap, sym, ◌∙◌, subst, arith}
use Rattle.lsm_trail.specs.Begins.{Begin}
use Rattle.lsm_trail.specs.History.{numbers}
use Rattle.lsm_trail.specs.Knowledge.{Known, Sees, known_of}
use Rattle.lsm_trail.proofs.counters.Counters.watch.Goals as goal

pub read_row-requires-clause-count : goal.read_row-requires-clause-count
read_row-requires-clause-count g c =
    let e = c.look-count.ensures in
    (e.size, omega (arith, e.sees.room, e.size, ap (λ (b : Begin). b.limit) e.client.2))

pub returns-clause-sees : goal.returns-clause-sees
returns-clause-sees g c = subst (Sees (known_of c.args.client.now)) (sym c.read_row.ensures.known) c.look-count.ensures.sees

pub returns-clause-told : goal.returns-clause-told
returns-clause-told g c = c.read_row.ensures.told ∙ ap (λ (k : Known). numbers g.B.SessionName.id.begin k.seen) (sym c.read_row.ensures.known)
