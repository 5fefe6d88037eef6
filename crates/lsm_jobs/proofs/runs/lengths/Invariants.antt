use Rattle.std.proofs.Common.{◌≡◌, length, map, take}
use Rattle.lsm_merge.specs.Inputs.{items_of}
use Rattle.lsm_jobs.proofs.runs.lengths.Given as goal

abbrev pub invariant-loop-run : goal.invariant-loop-run
invariant-loop-run g l = l.lengths.items ≡ map length (items_of (take l.run-index l.runs))
