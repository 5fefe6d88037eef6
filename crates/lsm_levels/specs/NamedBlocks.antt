-- Where named blocks of tables stand, and what a cache of them keeps.
use Rattle.std.specs.Prelude.{◌≡◌, ◌≢◌, ◌⊎◌, ◌==◌, ◌&&◌, ltb, ℕ, Bool, List, [], ◌∷◌, length, All, Option, Some, None, Result, if◌then◌else◌}
use Rattle.std.specs.List.{AllByRecursion}
use Rattle.lsm_device.specs.declared.refusal.Refusal.{Refusal}
use Rattle.lsm_codec.specs.Guards.{Condition}
use Rattle.lsm_codec.specs.Keys.{Bytes}
use Rattle.lsm_codec.specs.Versions.{Version}
use Rattle.lsm_cache.specs.declared.name.BlockName.{BlockName}
use Rattle.lsm_cache.specs.Fresh.{IsFresh}
use Rattle.lsm_cache.specs.Recency.{Cached}
use Rattle.lsm_levels.specs.Among.{IsAmong}
use Rattle.lsm_levels.specs.Asking.{Source, sector_of}
use Rattle.lsm_levels.specs.Levels.{all_tables}
use Rattle.lsm_levels.specs.Lookups.{IsLookUp, IsTest}
use Rattle.lsm_levels.specs.Scans.{ScansRuns}
use Rattle.lsm_levels.specs.Stored.{ArePlaced, blocks_from}
use Rattle.lsm_levels.specs.Tables.{Table}

-- whether a name is that of a data block of a table
abbrev pub is_block_of : BlockName → Table → Bool
is_block_of name t = (t.number == name.table) && ltb name.block (length t.outline.edges)

-- the sector where a named block begins, if it is one of these tables'
abbrev pub place_among : ℕ → List Table → BlockName → Option ℕ
place_among area [] name = None
place_among area (t ∷ rest) name = if is_block_of name t then Some (sector_of area t name.block) else place_among area rest name

-- no two tables have one number
abbrev pub AreNumberedApart : List Table → Type 0
AreNumberedApart [] = Unit {0}
AreNumberedApart (t ∷ rest) = AllByRecursion (λ u. u.number ≢ t.number) rest × AreNumberedApart rest

-- the data blocks of a table are the same in both lists of sectors
abbrev pub HasSameBlocks : ℕ → List (List ℕ) → List (List ℕ) → Table → Type 0
HasSameBlocks area old new t = blocks_from new (sector_of area t 0) (length t.outline.edges) ≡ blocks_from old (sector_of area t 0) (length t.outline.edges)

-- no block that is kept is of the table of a number
abbrev pub HasNoBlock : ℕ → Cached → Type 0
HasNoBlock number c = All (λ b. b.0.table ≢ number) c.blocks

-- none of the tables in runs has this number
abbrev pub HaveNone : ℕ → List (List Table) → Type 0
HaveNone number runs = AllByRecursion (AllByRecursion (λ t. t.number ≢ number)) runs

-- Each data block of tables with numbers of their own has its place. A cache stays fresh where the data blocks stay, and for
-- other tables, each of which was there before or has no block in it. A look-up, a test and a scan take in
-- blocks of their tables alone.
pub record NamedLaw : Type 0 where
  pub placed : (area : ℕ) (runs : List (List Table)) → AreNumberedApart (all_tables runs) → ArePlaced (place_among area (all_tables runs)) area runs
  pub kept : (area : ℕ) (old new : List (List ℕ)) (tables : List Table) (c : Cached) → AllByRecursion (HasSameBlocks area old new) tables → IsFresh (place_among area tables) old c → IsFresh (place_among area tables) new c
  pub others : (area : ℕ) (sectors : List (List ℕ)) (before after : List Table) (c : Cached) → AreNumberedApart before → ((t : Table) → IsAmong t after → IsAmong t before ⊎ HasNoBlock t.number c)
      → IsFresh (place_among area before) sectors c → IsFresh (place_among area after) sectors c
  pub looked : (memory sealed : List Version) (runs : List (List Table)) (area : ℕ) (key : Bytes) (n number : ℕ) (answer : Result (Option Bytes) Refusal) (old new : Source) → IsLookUp memory sealed runs area key n answer old new
      → HaveNone number runs → HasNoBlock number old.cache → HasNoBlock number new.cache
  pub tested : (memory sealed : List Version) (runs : List (List Table)) (area : ℕ) (condition : Condition) (n number : ℕ) (met : Result Bool Refusal) (old new : Source) → IsTest memory sealed runs area condition n met old new
      → HaveNone number runs → HasNoBlock number old.cache → HasNoBlock number new.cache
  pub scanned : (area : ℕ) (key : Bytes) (runs : List (List Table)) (number : ℕ) (refusal : Option Refusal) (old new : Source) → ScansRuns area key runs refusal old new → HaveNone number runs → HasNoBlock number old.cache → HasNoBlock number new.cache
