use Rattle.std.proofs.Common.{◌≡◌, ℕ, take, All, Contains}
use Rattle.std.specs.List.{list_any}
use Rattle.lsm_extent.specs.Area.{covers, is_held}
use Rattle.lsm_open.specs.ToldTables.{record_extent}
use Rattle.lsm_open.proofs.tables.claim_extents.Given as goal

abbrev pub invariant-loop-table : goal.invariant-loop-table
invariant-loop-table g l = record {
  size : l.extents.blocks ≡ l.fn.extents.blocks;
  each : All (λ t. Contains l.extents.held (record_extent t)) (take l.table-index l.tables);
  only : (k : ℕ) → is_held l.extents.held k ≡ list_any (λ t. covers k (record_extent t)) (take l.table-index l.tables);
}
