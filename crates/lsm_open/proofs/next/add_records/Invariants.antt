use Rattle.std.proofs.Common.{◌≡◌, ◌++◌, map, drop}
use Rattle.lsm_levels.specs.Tables.{record_of}
use Rattle.lsm_open.proofs.next.add_records.Given as goal

abbrev pub invariant-loop-table : goal.invariant-loop-table
invariant-loop-table g l = l.records.items ++ map (record_of l.level l.run) (drop l.table-index l.tables) ≡ l.fn.records.items ++ map (record_of l.level l.run) l.tables
