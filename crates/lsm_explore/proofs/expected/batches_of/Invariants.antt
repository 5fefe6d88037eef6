use Rattle.std.proofs.Common.{◌≤◌, map, drop, length}
use Rattle.std.specs.Prelude.{option_map}
use Rattle.lsm_explore.specs.Expected.{as_list}
use Rattle.lsm_explore.proofs.CountedBatches.{CountsAt}
use Rattle.lsm_explore.proofs.expected.batches_of.Given as goal

abbrev pub invariant-loop-i : goal.invariant-loop-i
invariant-loop-i g l = record {
  in_range : l.i ≤ length l.steps;
  counts : CountsAt (map (λ batch. batch.now) l.accepted.items) (as_list (option_map (λ batch. batch.now) l.in_flight)) l.least (drop l.i l.steps) (drop l.i l.replies) l.steps l.replies;
}
