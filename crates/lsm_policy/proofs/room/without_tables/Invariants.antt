use Rattle.std.proofs.Common.{◌≡◌, drop}
use Rattle.lsm_policy.specs.Room.{blocks_of, left_of}
use Rattle.lsm_policy.proofs.room.without_tables.Given as goal

abbrev pub invariant-loop-table : goal.invariant-loop-table
invariant-loop-table g l = left_of l.left (blocks_of (drop l.table-index l.tables)) ≡ left_of l.limit (blocks_of l.tables)
