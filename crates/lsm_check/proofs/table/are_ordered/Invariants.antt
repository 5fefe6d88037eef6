use Rattle.std.proofs.Common.{◌≡◌, ◌-◌, ◌≤◌, drop}
use Rattle.lsm_mem.proofs.OrderTests.{is_in_order}
use Rattle.lsm_check.proofs.table.are_ordered.Given as goal

abbrev pub invariant-loop-place : goal.invariant-loop-place
invariant-loop-place g l = record {
  low : 1 ≤ l.place;
  same : is_in_order (drop (l.place - 1) l.entries) ≡ is_in_order l.entries;
}
