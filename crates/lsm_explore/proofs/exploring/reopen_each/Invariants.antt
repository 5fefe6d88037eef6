use Rattle.lsm_explore.proofs.Explorations.{OpeningsSoFar}
use Rattle.lsm_explore.proofs.exploring.reopen_each.Given as goal

abbrev pub invariant-loop-fuse : goal.invariant-loop-fuse
invariant-loop-fuse g l = OpeningsSoFar l.left l.fuse l.fn.explored l.explored
