use Rattle.std.proofs.Common.{◌≤◌}
use Rattle.test_table.proofs.RisingKeys.{RiseUpTo}
use Rattle.test_table.proofs.input.are_input.Given as goal

abbrev pub invariant-loop-i : goal.invariant-loop-i
invariant-loop-i g l = record {
  low : 1 ≤ l.i;
  rise : RiseUpTo l.entries l.i;
}
