use Rattle.std.proofs.Common.{◌≡◌, length}
use Rattle.lsm_merge.specs.Inputs.{items_of}
use Rattle.lsm_jobs.proofs.GatheredRuns.{CutTo}
use Rattle.lsm_jobs.proofs.runs.cut_back.Given as goal

abbrev pub invariant-loop-i : goal.invariant-loop-i
invariant-loop-i g l = record {
  count : length l.runs ≡ length l.fn.runs;
  cut : CutTo l.lengths (items_of l.fn.runs) l.i (items_of l.runs);
}
