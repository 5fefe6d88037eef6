use Rattle.std.proofs.Common.{map}
use Rattle.lsm_lives.specs.Calls.{asked_of}
use Rattle.lsm_explore.proofs.Explorations.{LivesSoFar}
use Rattle.lsm_explore.proofs.exploring.explore_from.Given as goal

abbrev pub invariant-loop-fuse : goal.invariant-loop-fuse
invariant-loop-fuse g l = LivesSoFar l.start (map asked_of l.steps) l.fuse l.twice l.explored
