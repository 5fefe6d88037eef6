-- How a table is read from the blocks of its extent.
use Rattle.std.specs.Prelude.{◌≡◌, ℕ, ◌+◌, ◌≤◌, ◌^◌, List, [], ◌∷◌, length, map, take, drop, slice_index_or, Option, Some}
use Rattle.std.specs.List.{AllByRecursion, flat_map}
use Rattle.lsm_codec.specs.Reading.{◌>>=◌}
use Rattle.lsm_codec.specs.Entries.{IsDataBlock, data_block, block_of}
use Rattle.lsm_codec.specs.declared.table_record.TableRecord.{TableRecord}
use Rattle.lsm_table.specs.Division.{TableBlocks, IsTable}
use Rattle.lsm_table.specs.Outlines.{Outline, IsRecordOf, outline_in, outline_of}
use Rattle.lsm_table.specs.Extents.{extent_in_blocks}

-- the table that data blocks encode, if each of them encodes entries
abbrev pub table_of : List (List ℕ) → Option TableBlocks
table_of [] = Some []
table_of (b ∷ blocks) = do
  entries ← block_of b
  table ← table_of blocks
  Some (entries ∷ table)

-- the table that the first `count` blocks of an extent encode
abbrev pub table_in : ℕ → List (List ℕ) → Option TableBlocks
table_in count blocks = table_of (take count blocks)

-- the outline that the blocks after the data blocks give of the table with this record: the filter, the index, and the
-- footer
abbrev pub outline_at : TableRecord → List (List ℕ) → Option Outline
outline_at t blocks =
    outline_of t (slice_index_or blocks (t.data_blocks + t.index_blocks + 1) []) (flat_map (λ b. b) (take t.index_blocks (drop (t.data_blocks + 1) blocks))) (slice_index_or blocks t.data_blocks [])

-- Data blocks encode just one table, and an extent is read as the table that was laid into it.
pub record StoredLaws : Type 0 where
  pub read : (table : TableBlocks) → AllByRecursion IsDataBlock table → table_of (map data_block table) ≡ Some table
  pub spelled : (blocks : List (List ℕ)) (table : TableBlocks) → table_of blocks ≡ Some table → AllByRecursion IsDataBlock table × (blocks ≡ map data_block table)
  pub table : (number : ℕ) (filter : List ℕ) (table : TableBlocks) → IsTable table → table_in (length table) (extent_in_blocks number filter table) ≡ Some table
  pub outline : (t : TableRecord) (number : ℕ) (filter : List ℕ) (table : TableBlocks) → number ≤ 2 ^ 63 → IsTable table → IsRecordOf t (outline_in number filter table) → outline_at t (extent_in_blocks number filter table) ≡ Some (outline_in number filter table)
