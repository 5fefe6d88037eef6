use Rattle.lsm_jobs.proofs.Placed.{Places}
use Rattle.lsm_jobs.proofs.placing.place_each.Given as goal

abbrev pub invariant-loop-i : goal.invariant-loop-i
invariant-loop-i g l = Places l.number l.fn.extents l.extents l.images l.i l.tables.items
