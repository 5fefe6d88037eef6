use Rattle.std.proofs.Common.{◌≡◌, take}
use Rattle.lsm_levels.proofs.table.share_all.Given as goal

abbrev pub invariant-loop-table : goal.invariant-loop-table
invariant-loop-table g l = l.handles.items ≡ take l.table-index l.tables
