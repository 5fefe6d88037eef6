use Rattle.std.proofs.Common.{◌≡◌, ◌+◌, ◌≤◌, drop}
use Prim.Native.Nat.{min}
use Rattle.lsm_levels.specs.Levels.{all_tables}
use Rattle.lsm_policy.specs.Room.{blocks_of}
use Rattle.lsm_room.proofs.standing.blocks_of_runs.Given as goal

abbrev pub invariant-loop-run : goal.invariant-loop-run
invariant-loop-run g l = record {
  fits : l.blocks ≤ 18446744073709551615;
  sum : min (l.blocks + blocks_of (all_tables (drop l.run-index l.runs))) 18446744073709551615 ≡ min (l.before + blocks_of (all_tables l.runs)) 18446744073709551615;
}
