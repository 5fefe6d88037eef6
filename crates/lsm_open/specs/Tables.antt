-- What the extents hold of the tables that a manifest names.
use Rattle.std.specs.Prelude.{◌≡◌, ℕ, ◌+◌, ◌*◌, true, List, [], ◌∷◌, ◌++◌, map, All, Option, Some, None, IfSome}
use Rattle.std.specs.List.{AllByRecursion}
use Rattle.std.specs.declared.cmp.Ordering.TheVariants.{Less}
use Rattle.lsm_codec.specs.Keys.{byte_order}
use Rattle.lsm_codec.specs.Pairs.{Pairwise}
use Rattle.lsm_codec.specs.TableRecords.{extent_blocks}
use Rattle.lsm_codec.specs.Versions.{Version, deletes_in}
use Rattle.lsm_codec.specs.declared.table_record.TableRecord.{TableRecord}
use Rattle.lsm_device.specs.Areas.{area}
use Rattle.lsm_filter.specs.Bits.{is_perhaps}
use Rattle.lsm_levels.specs.Orders.{IsVersionOrder}
use Rattle.lsm_levels.specs.Stored.{blocks_from}
use Rattle.lsm_mem.specs.Versions.{NumberedAtMost}
use Rattle.lsm_open.specs.LogRegions.{first_region}
use Rattle.lsm_table.specs.Division.{TableBlocks, entries_of}
use Rattle.lsm_table.specs.Outlines.{outline_in}
use Rattle.lsm_table.specs.Places.{IsSorted}
use Rattle.lsm_table.specs.Stored.{table_in, outline_at}

-- the first sector of the data area, after the three log regions
abbrev pub first_data : ℕ → ℕ
first_data log_sectors = first_region + 3 * log_sectors

-- the first sector of a table's extent, and how many it has
abbrev pub extent_start : ℕ → TableRecord → ℕ
extent_start log_sectors t = first_data log_sectors + 8 * t.first_block

abbrev pub extent_length : TableRecord → ℕ
extent_length t = 8 * extent_blocks t

-- the sectors of a table's extent, and its blocks
abbrev pub extent_at : ℕ → List (List ℕ) → TableRecord → List (List ℕ)
extent_at log_sectors sectors t = area (extent_start log_sectors t) (extent_length t) sectors

abbrev pub blocks_at : ℕ → List (List ℕ) → TableRecord → List (List ℕ)
blocks_at log_sectors sectors t = blocks_from (extent_at log_sectors sectors t) 0 (extent_blocks t)

-- the versions of a table, none where its data blocks spell no table
abbrev pub versions_if : Option TableBlocks → List Version
versions_if None = []
versions_if (Some table) = entries_of table

abbrev pub versions_at : ℕ → List (List ℕ) → TableRecord → List Version
versions_at log_sectors sectors t = versions_if (table_in t.data_blocks (blocks_at log_sectors sectors t))

-- the versions of these tables
abbrev pub table_versions : ℕ → List (List ℕ) → List TableRecord → List Version
table_versions log_sectors sectors [] = []
table_versions log_sectors sectors (t ∷ rest) = versions_at log_sectors sectors t ++ table_versions log_sectors sectors rest

-- A table stands in its extent: its data blocks spell entries in order, footer, index and filter are those of the entries
-- and of the record, the filter has each of their keys, no version is above the base, and as many are deletes as the record
-- tells, where it does: in version 1 of the format none does.
pub record IsTableAt (log_sectors base : ℕ) (sectors : List (List ℕ)) (t : TableRecord) : Type 0 where
  pub table : TableBlocks
  pub filter : List ℕ
  pub spelled : table_in t.data_blocks (blocks_at log_sectors sectors t) ≡ Some table
  pub sorted : IsSorted table
  pub told : outline_at t (blocks_at log_sectors sectors t) ≡ Some (outline_in t.number filter table)
  pub members : AllByRecursion (λ v. is_perhaps filter v.key ≡ true) (entries_of table)
  pub numbered : NumberedAtMost base (versions_at log_sectors sectors t)
  pub counted : IfSome t.deletes (λ deletes. deletes ≡ deletes_in (versions_at log_sectors sectors t))

abbrev pub IsSameRun : TableRecord → TableRecord → Type 0
IsSameRun t u = (t.level ≡ u.level) × (t.run ≡ u.run)

-- in one run each key of the earlier table is below each of the later
abbrev pub AscendInRun : ℕ → List (List ℕ) → TableRecord → TableRecord → Type 0
AscendInRun log_sectors sectors t u = IsSameRun t u
    → AllByRecursion (λ v. AllByRecursion (λ w. byte_order v.key w.key ≡ Less) (versions_at log_sectors sectors u)) (versions_at log_sectors sectors t)

-- The tables of these records, the newer places first: each stands, they are in the order of versions, and each run ascends.
pub record AreTables (log_sectors base : ℕ) (tables : List TableRecord) (sectors : List (List ℕ)) : Type 0 where
  pub each : All (IsTableAt log_sectors base sectors) tables
  pub order : IsVersionOrder (map (versions_at log_sectors sectors) tables)
  pub ascend : Pairwise (AscendInRun log_sectors sectors) tables
