use Rattle.std.proofs.Common.{ℕ, ◌-◌, ◌≤◌, List, ◌++◌, length, drop}
use Rattle.lsm_table.specs.Counting.{EndTables}
use Rattle.lsm_table.proofs.counting.table_lens.Given as goal

abbrev pub invariant-loop-from : goal.invariant-loop-from
invariant-loop-from g l = record {
  within : l.from ≤ length l.entries;
  so_far : (lens : List ℕ) → EndTables (drop l.from l.entries) lens → EndTables l.entries (l.lens.items ++ lens);
}

abbrev pub decreases-loop-from : goal.decreases-loop-from
decreases-loop-from g l = length l.entries - l.from
