use Rattle.std.proofs.Common.{◌≡◌, ◌+◌, ◌≤◌, drop, length}
use Prim.Native.Nat.{min}
use Rattle.lsm_levels.specs.Levels.{all_tables}
use Rattle.lsm_room.proofs.standing.count_with.Given as goal

abbrev pub invariant-loop-run : goal.invariant-loop-run
invariant-loop-run g l = record {
  fits : l.count ≤ 18446744073709551615;
  sum : min (l.count + length (all_tables (drop l.run-index l.runs))) 18446744073709551615 ≡ min (l.before + length (all_tables l.runs)) 18446744073709551615;
}
