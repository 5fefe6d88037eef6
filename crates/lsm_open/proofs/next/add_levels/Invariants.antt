use Rattle.std.proofs.Common.{◌≡◌, ◌+◌, ◌++◌, drop}
use Rattle.lsm_open.specs.ToldTables.{records_of_levels}
use Rattle.lsm_open.proofs.next.add_levels.Given as goal

abbrev pub invariant-loop-below : goal.invariant-loop-below
invariant-loop-below g l = l.records.items ++ records_of_levels (l.below + 1) (drop l.below l.levels) ≡ l.fn.records.items ++ records_of_levels 1 l.levels
