use Rattle.std.proofs.Common.{◌≡◌, drop, sum_by, ltb}
use Rattle.lsm_levels.proofs.picking.is_over.Given as goal

abbrev pub invariant-loop-table : goal.invariant-loop-table
invariant-loop-table g l = ltb l.left (sum_by (λ t. t.blocks) (drop l.table-index l.tables)) ≡ ltb l.limit (sum_by (λ t. t.blocks) l.tables)
