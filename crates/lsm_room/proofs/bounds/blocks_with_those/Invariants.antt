use Rattle.std.proofs.Common.{◌≡◌, ◌+◌, ◌≤◌, drop}
use Prim.Native.Nat.{min}
use Rattle.lsm_policy.specs.Room.{blocks_of}
use Rattle.lsm_room.proofs.bounds.blocks_with_those.Given as goal

abbrev pub invariant-loop-table : goal.invariant-loop-table
invariant-loop-table g l = record {
  fits : l.blocks ≤ 18446744073709551615;
  sum : min (l.blocks + blocks_of (drop l.table-index l.tables)) 18446744073709551615 ≡ min (l.before + blocks_of l.tables) 18446744073709551615;
}
