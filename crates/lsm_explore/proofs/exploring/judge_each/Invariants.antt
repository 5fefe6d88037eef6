use Rattle.std.proofs.Common.{◌≡◌, ◌≤◌, ◌+◌, length}
use Rattle.lsm_explore.proofs.exploring.judge_each.Given as goal

abbrev pub invariant-loop-mask : goal.invariant-loop-mask
invariant-loop-mask g l = record {
  within : l.mask-index ≤ length l.masks;
  second : l.explored.second ≡ l.fn.explored.second + l.mask-index;
  first : l.explored.first ≡ l.fn.explored.first;
  skipped : l.explored.skipped ≡ l.fn.explored.skipped;
  wrong : l.explored.wrong ≡ l.fn.explored.wrong;
}
