-- Tables that stand in the sectors of a device.
use Rattle.std.specs.Prelude.{◌≡◌, ℕ, zero, suc, ◌+◌, ◌*◌, ◌<◌, ◌≤◌, Bool, true, leb, IsTrue, List, [], ◌∷◌, length, Option, Some}
use Rattle.std.specs.List.{AllByRecursion}
use Rattle.lsm_device.specs.Disk.{seen}
use Rattle.lsm_device.specs.Medium.{disk}
use Rattle.lsm_codec.specs.Versions.{deletes_in}
use Rattle.lsm_filter.specs.Bits.{is_perhaps}
use Rattle.lsm_table.specs.Division.{TableBlocks, entries_of}
use Rattle.lsm_table.specs.Places.{IsSorted}
use Rattle.lsm_table.specs.Outlines.{outline_in}
use Rattle.lsm_table.specs.Stored.{table_of}
use Rattle.lsm_cache.specs.declared.name.BlockName.{BlockName}
use Rattle.lsm_cache.specs.Recency.{named_block}
use Rattle.lsm_cache.specs.Reads.{block_at}
use Rattle.lsm_cache.specs.Fresh.{IsFresh}
use Rattle.lsm_levels.specs.Tables.{Table, table_at}
use Rattle.lsm_levels.specs.Asking.{Source, sector_of}

-- The data blocks of a table lie within the first `size` sectors.
pub record LiesWithin (size area : ℕ) (t : Table) : Type 0 where
  pub ends : area + 8 * (t.start + length t.outline.edges) ≤ size

-- the same, as a test
abbrev pub is_within : ℕ → ℕ → Table → Bool
is_within size area t = leb (area + 8 * (t.start + length t.outline.edges)) size

-- so do those of all tables of runs
abbrev pub AreWithin : ℕ → ℕ → List (List Table) → Type 0
AreWithin size area runs = AllByRecursion (AllByRecursion (LiesWithin size area)) runs

-- each table of runs has a number below this one
abbrev pub AreNumberedBelow : ℕ → List (List Table) → Type 0
AreNumberedBelow number runs = AllByRecursion (AllByRecursion (λ t. t.number < number)) runs

-- the place of each data block of a table is the sector where it begins
pub record IsPlaced (place : BlockName → Option ℕ) (area : ℕ) (t : Table) : Type 0 where
  pub at : (i : ℕ) → i < length t.outline.edges → place (named_block t.number i) ≡ Some (sector_of area t i)

abbrev pub ArePlaced : (BlockName → Option ℕ) → ℕ → List (List Table) → Type 0
ArePlaced place area runs = AllByRecursion (AllByRecursion (IsPlaced place area)) runs

-- n blocks, one after the other from a sector on
abbrev pub blocks_from : List (List ℕ) → ℕ → ℕ → List (List ℕ)
blocks_from sectors at zero = []
blocks_from sectors at (suc n) = block_at sectors at ∷ blocks_from sectors (at + 8) n

-- A table is stored: its data blocks encode its versions in order, its first key and edges are those of the blocks, its
-- number of deletes is that of the versions, and its filter has each of its keys.
pub record IsStored (sectors : List (List ℕ)) (area : ℕ) (t : Table) : Type 0 where
  pub blocks : TableBlocks
  pub spelled : table_of (blocks_from sectors (sector_of area t 0) (length t.outline.edges)) ≡ Some blocks
  pub sorted : IsSorted blocks
  pub told : t ≡ table_at (outline_in t.number t.outline.filter blocks) t.start (deletes_in (entries_of blocks)) (entries_of blocks)
  pub members : AllByRecursion (λ v. is_perhaps t.outline.filter v.key ≡ true) (entries_of blocks)

-- all tables of runs stand
abbrev pub AreStored : List (List ℕ) → ℕ → List (List Table) → Type 0
AreStored sectors area runs = AllByRecursion (AllByRecursion (IsStored sectors area)) runs

-- All tables of runs stand in the device, and the cache keeps blocks of it alone.
pub record IsReadable (place : BlockName → Option ℕ) (area : ℕ) (runs : List (List Table)) (s : Source) : Type 0 where
  pub tells : IsTrue s.medium.lasting.tells
  pub stored : AreStored (seen (disk s.medium)) area runs
  pub placed : ArePlaced place area runs
  pub fresh : IsFresh place (seen (disk s.medium)) s.cache
