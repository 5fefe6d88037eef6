use Rattle.lsm_levels.proofs.OldestRuns.{IsKept}
use Rattle.lsm_levels.proofs.levels.count_newer.Given as goal

abbrev pub invariant-loop-run : goal.invariant-loop-run
invariant-loop-run g l = IsKept l.run-iterator.iter.rest.now l.runs l.kept l.left l.tables
