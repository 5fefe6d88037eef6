-- Tables of entries that are divided at keys.
use Rattle.std.specs.Prelude.{◌≡◌, ◌<◌, List, [], ◌∷◌, ◌++◌, length, Some, None}
use Rattle.std.specs.List.{AllByRecursion, flat_map}
use Rattle.lsm_codec.specs.Keys.{Bytes}
use Rattle.lsm_codec.specs.Pairs.{Pairwise}
use Rattle.lsm_codec.specs.Versions.{Version, AreOrdered}
use Rattle.lsm_table.specs.Division.{TableBlocks, IsBlocks, KeepsLimits, IsTables, ShareNoKey, entries_of}
use Rattle.lsm_merge.specs.Ranges.{within}

-- the entries before a key
abbrev pub before : Bytes → List Version → List Version
before key entries = within None (Some key) entries

-- the entries from a key on
abbrev pub from : Bytes → List Version → List Version
from key entries = within (Some key) None entries

-- tables in two parts, of which each is so
pub record AreInParts (First Others : List TableBlocks → Type 0) (tables : List TableBlocks) : Type 0 where
  pub front : List TableBlocks
  pub back : List TableBlocks
  pub joined : tables ≡ front ++ back
  pub first : First front
  pub others : Others back

-- The tables of entries that are divided at keys, one after the other: those of the entries before the first key are the
-- tables of these alone, and so on with the entries from it on; from the last key on they are the tables of what is left.
abbrev pub AreTablesAt : List Bytes → List Version → List TableBlocks → Type 0
AreTablesAt [] entries tables = IsTables entries tables
AreTablesAt (key ∷ keys) entries tables = AreInParts (IsTables (before key entries)) (λ back. AreTablesAt keys (from key entries) back) tables

-- Tables of entries, wherever they are divided: nonempty; joined they are the entries; each is divided into blocks and keeps
-- the limits; no key is in two of them.
pub record AreTables (entries : List Version) (tables : List TableBlocks) : Type 0 where
  pub whole : flat_map entries_of tables ≡ entries
  pub nonempty : AllByRecursion (λ table. 0 < length table) tables
  pub in_blocks : AllByRecursion (λ table. IsBlocks (entries_of table) table) tables
  pub limits : AllByRecursion (λ table. KeepsLimits (entries_of table)) tables
  pub whole_keys : Pairwise (λ table other. ShareNoKey (entries_of table) (entries_of other)) tables

-- The tables of ordered entries that are divided at keys are tables of them, and there is one division at these keys.
pub record DivisionLaw : Type 0 where
  pub tables : (keys : List Bytes) (entries : List Version) (tables : List TableBlocks) → AreOrdered entries → AreTablesAt keys entries tables → AreTables entries tables
  pub only : (keys : List Bytes) (entries : List Version) (tables others : List TableBlocks) → AreTablesAt keys entries tables → AreTablesAt keys entries others → tables ≡ others
