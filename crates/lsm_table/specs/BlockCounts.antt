-- How many blocks entries and tables take, and bounds on them.
use Rattle.std.specs.Prelude.{◌≡◌, ℕ, ◌+◌, ◌-◌, ◌*◌, ◌/◌, ◌<◌, ◌≤◌, ◌⊎◌, cond, leb, List, [], ◌∷◌, ◌++◌, length, sum_by, count_by}
use Rattle.std.specs.List.{AllByRecursion, flat_map}
use Rattle.std.specs.Int.{div_ceil}
use Rattle.lsm_codec.specs.Keys.{Bytes}
use Rattle.lsm_codec.specs.Versions.{Version, is_same_key}
use Rattle.lsm_codec.specs.Entries.{entry_size}
use Rattle.lsm_table.specs.Division.{TableBlocks, IsBlocks, IsTable, IsTables, blocks, entries_of}
use Rattle.lsm_table.specs.Extents.{extent_size}

-- how many data blocks entries take that are laid down as one table, at least 1
abbrev pub block_count : List Version → ℕ
block_count entries = length (blocks entries)

-- how many data blocks tables have
abbrev pub data_blocks : List TableBlocks → ℕ
data_blocks [] = 0
data_blocks (table ∷ tables) = length table + data_blocks tables

-- how many blocks the extents of tables take
abbrev pub extent_blocks : List TableBlocks → ℕ
extent_blocks [] = 0
extent_blocks (table ∷ tables) = extent_size table + extent_blocks tables

-- Some of the entries, in their order.
abbrev pub IsPart : List Version → List Version → Type 0
IsPart some [] = some ≡ []
IsPart some (v ∷ all) = ((rest : List Version) × (some ≡ v ∷ rest) × IsPart rest all) ⊎ IsPart some all

-- All entries of two lists, those of each in their order.
abbrev pub IsMerge : List Version → List Version → List Version → Type 0
IsMerge base added [] = (base ≡ []) × (added ≡ [])
IsMerge base added (v ∷ all) = ((rest : List Version) × (base ≡ v ∷ rest) × IsMerge rest added all) ⊎ ((rest : List Version) × (added ≡ v ∷ rest) × IsMerge base rest all)

-- the most blocks that one more entry adds
abbrev pub most_blocks : Version → ℕ
most_blocks v = cond (leb (entry_size v) 2047) 1 2

-- Nonempty tables, each divided into blocks.
pub record AreInBlocks (tables : List TableBlocks) : Type 0 where
  pub nonempty : AllByRecursion (λ table. 0 < length table) tables
  pub in_blocks : AllByRecursion (λ table. IsBlocks (entries_of table) table) tables

-- How many blocks entries take: some of them no more than all; merged lists no more than those of the one list and the
-- most that each entry of the other adds; likewise one more entry at a place; joined lists as many as both, or one less.
pub record BlockLaws : Type 0 where
  pub part : (some all : List Version) → IsPart some all → block_count some ≤ block_count all
  pub merged : (base added all : List Version) → IsMerge base added all → block_count all ≤ block_count base + sum_by most_blocks added
  pub one_less : (before after : List Version) (v : Version) → block_count (before ++ after) ≤ block_count (before ++ v ∷ after)
  pub one_more : (before after : List Version) (v : Version) → block_count (before ++ v ∷ after) ≤ block_count (before ++ after) + most_blocks v
  pub joined : (before after : List Version) → block_count (before ++ after) ≤ block_count before + block_count after
  pub parted : (before after : List Version) → block_count before + block_count after ≤ block_count (before ++ after) + 1
  pub appended : (before after : List Version) → block_count (before ++ after) ≤ block_count before + length after

-- Tables have no fewer data blocks than their entries take, and at most one more for each border between two.
pub record DataBlockLaws : Type 0 where
  pub least : (tables : List TableBlocks) → AreInBlocks tables → 0 < length tables → block_count (flat_map entries_of tables) ≤ data_blocks tables
  pub most : (tables : List TableBlocks) → AreInBlocks tables → data_blocks tables + 1 ≤ block_count (flat_map entries_of tables) + length tables

-- Blocks by the bytes of entries: where none has more than `most` bytes, each block but the last has fewer than `most` bytes
-- free; whatever their sizes, any two neighbours have more bytes than one block holds; and no block has more than it holds.
pub record ByteLaws : Type 0 where
  pub small : (entries : List Version) (most : ℕ) → AllByRecursion (λ v. entry_size v ≤ most) entries → (block_count entries - 1) * (4095 - most) ≤ sum_by entry_size entries
  pub any : (entries : List Version) → block_count entries ≤ 2 * (sum_by entry_size entries / 4095) + 1
  pub held : (tables : List TableBlocks) → AreInBlocks tables → sum_by entry_size (flat_map entries_of tables) ≤ 4094 * data_blocks tables

-- How many tables entries are divided into with at most `group` of a key, and how many blocks their extents take: data blocks,
-- filter, index and footer.
pub record TableCountLaws : Type 0 where
  pub few : (entries : List Version) (tables : List TableBlocks) (group : ℕ) → IsTables entries tables → group ≤ 33 → ((key : Bytes) → count_by (λ v. is_same_key key v.key) entries ≤ group)
      → length tables ≤ (data_blocks tables / (65 - group)) + ((length entries / (3201 - group)) + 1)
  pub largest : (table : TableBlocks) → IsTable table → extent_size table ≤ 71
  pub one : (table : TableBlocks) → IsTable table → extent_size table ≤ length table + (div_ceil (264 * length table) 4096 + 2)
  pub all : (tables : List TableBlocks) → AllByRecursion IsTable tables → extent_blocks tables ≤ data_blocks tables + (div_ceil (264 * data_blocks tables) 4096 + 3 * length tables)
