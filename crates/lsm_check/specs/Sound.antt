-- When tables are sound.
use Rattle.std.specs.Prelude.{◌≡◌, ◌==◌, ◌&&◌, ℕ, ◌-◌, Bool, true, false, List, length, map, take, slice_get, nat_le, Option, Some, None}
use Rattle.std.specs.List.{AllByRecursion, list_all}
use Rattle.lsm_codec.specs.Indexes.{Edge}
use Rattle.lsm_codec.specs.Versions.{Version, AreOrdered, deletes_in, is_same_key}
use Rattle.lsm_filter.specs.Bits.{is_perhaps}
use Rattle.lsm_levels.specs.Asking.{sector_of}
use Rattle.lsm_levels.specs.Orders.{IsNewerPlace, IsVersionOrder}
use Rattle.lsm_levels.specs.Stored.{blocks_from, IsStored}
use Rattle.lsm_levels.specs.Tables.{Table, table_at, versions_of}
use Rattle.lsm_mem.specs.Versions.{NumberedAtMost}
use Rattle.lsm_open.specs.Tables.{versions_if}
use Rattle.lsm_table.specs.BlockEdges.{edges_of, first_in}
use Rattle.lsm_table.specs.Division.{TableBlocks, entries_of}
use Rattle.lsm_table.specs.Stored.{table_of}
use Rattle.lsm_check.specs.Seen.{SeenView, IsSeen}

-- the versions that the data blocks of a table spell, none where they spell no table
abbrev pub spelled_versions : List (List ℕ) → ℕ → Table → List Version
spelled_versions sectors area t = versions_if (table_of (blocks_from sectors (sector_of area t 0) (length t.outline.edges)))

-- A table is that of its outline and of its count of deletes, with the versions that its data blocks spell.
abbrev pub IsTold : List (List ℕ) → ℕ → Table → Type 0
IsTold sectors area t = t ≡ table_at t.outline t.start t.deletes (spelled_versions sectors area t)

-- These are the entries of a table's first `count` data blocks: the blocks encode them, and end as the index tells.
pub record AreRead (sectors : List (List ℕ)) (area count : ℕ) (t : Table) (entries : List Version) : Type 0 where
  pub blocks : TableBlocks
  pub spelled : table_of (blocks_from sectors (sector_of area t 0) count) ≡ Some blocks
  pub edges : edges_of blocks ≡ take count t.outline.edges
  pub whole : entries ≡ entries_of blocks

-- whether the last version has the key and the number of an edge
abbrev pub is_at_edge : Edge → Option Version → Bool
is_at_edge edge None = false
is_at_edge edge (Some v) = (v.number == edge.number) && is_same_key v.key edge.key

-- whether versions end with that of an edge
abbrev pub ends_with : List Version → Edge → Bool
ends_with versions edge = is_at_edge edge (slice_get versions (length versions - 1))

-- whether a table tells the count of these entries, their first key, and how many of them are deletes
abbrev pub tells_entries : Table → List Version → Bool
tells_entries t entries = (t.outline.entries == length entries) && (is_same_key t.outline.first (first_in entries) && (t.deletes == deletes_in entries))

-- What the entries of a table are besides: as many, with the first key, with as many deletes, in order, each key in the
-- filter, of batches up to the base, and older than all of these versions of their keys.
pub record Fits (t : Table) (base : ℕ) (newer : List Version) (entries : List Version) : Type 0 where
  pub told : tells_entries t entries ≡ true
  pub ordered : AreOrdered entries
  pub keys : list_all (λ v. is_perhaps t.outline.filter v.key) entries ≡ true
  pub numbered : list_all (λ v. nat_le v.number base) entries ≡ true
  pub older : IsNewerPlace newer entries

-- One table stands, and its versions are of batches up to the base.
pub record IsSound (sectors : List (List ℕ)) (area base : ℕ) (t : Table) : Type 0 where
  pub stored : IsStored sectors area t
  pub numbered : NumberedAtMost base t.versions

-- Tables, the newer places first, are sound: each is, and they are in the order of versions.
pub record AreSound (sectors : List (List ℕ)) (area base : ℕ) (tables : List Table) : Type 0 where
  pub each : AllByRecursion (IsSound sectors area base) tables
  pub order : IsVersionOrder (map (λ t. t.versions) tables)

-- These tables were seen, and are sound.
pub record AreSeen (sectors : List (List ℕ)) (area base : ℕ) (tables : List Table) (s : SeenView) : Type 0 where
  pub sound : AreSound sectors area base tables
  pub seen : IsSeen (versions_of tables) s
