-- Laws of the definitions.
use Rattle.std.specs.Prelude.{◌≡◌, ◌<◌, ◌≤◌, ◌^◌, ◌↔◌, ℕ, List, length, Some}
use Rattle.std.specs.List.{AllByRecursion}
use Rattle.lsm_codec.specs.Versions.{Version, IsEntry}
use Rattle.lsm_codec.specs.Indexes.{index_blocks}
use Rattle.lsm_codec.specs.declared.table_record.TableRecord.{TableRecord}
use Rattle.lsm_table.specs.Division.{TableBlocks, IsTable, IsTables, IsBlocks, blocks}
use Rattle.lsm_table.specs.BlockEdges.{edges_of}
use Rattle.lsm_table.specs.Places.{IsSorted}
use Rattle.lsm_table.specs.Outlines.{Outline, IsRecordOf, IsOutline, IsSpelled, outline_in, outline_of}
use Rattle.lsm_table.specs.Extents.{footer_in}

-- There is one division into tables.
abbrev pub OneDivision : Type 0
OneDivision = (entries : List Version) (tables others : List TableBlocks) → IsTables entries tables → IsTables entries others → tables ≡ others

-- Entries are laid down in the one way that the definition of blocks allows.
pub record OneLayout : Type 0 where
  pub only : (entries : List Version) (table : TableBlocks) → 0 < length table → IsBlocks entries table → table ≡ blocks entries
  pub are : (entries : List Version) → 0 < length entries → AllByRecursion IsEntry entries → IsBlocks entries (blocks entries)

-- Record, footer, index and filter give an outline exactly where it is one and they encode it; a table's outline is one,
-- and is what its own record, footer, index and filter give; and a table is sorted.
pub record OutlineLaws : Type 0 where
  pub exact : (t : TableRecord) (footer index filter : List ℕ) (o : Outline) → (outline_of t footer index filter ≡ Some o) ↔ (IsOutline o × IsSpelled t footer index filter o)
  pub table : (number : ℕ) (filter : List ℕ) (table : TableBlocks) → number ≤ 2 ^ 63 → IsTable table → IsOutline (outline_in number filter table)
  pub opens : (t : TableRecord) (number : ℕ) (filter : List ℕ) (table : TableBlocks) → number ≤ 2 ^ 63 → IsTable table → IsRecordOf t (outline_in number filter table) → outline_of t (footer_in number table) (index_blocks (edges_of table)) filter ≡ Some (outline_in number filter table)
  pub sorted : (table : TableBlocks) → IsTable table → IsSorted table
