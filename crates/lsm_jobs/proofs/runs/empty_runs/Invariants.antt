use Rattle.std.proofs.Common.{◌≡◌, ◌++◌, map, drop}
use Rattle.lsm_merge.specs.Inputs.{items_of}
use Rattle.lsm_jobs.specs.Gathering.{ascending_runs}
use Rattle.lsm_jobs.proofs.GatheredRuns.{blank}
use Rattle.lsm_jobs.proofs.runs.empty_runs.Given as goal

abbrev pub invariant-loop-i : goal.invariant-loop-i
invariant-loop-i g l = items_of l.runs.items ++ map blank (ascending_runs (drop l.i l.tables)) ≡ map blank (ascending_runs l.tables)
