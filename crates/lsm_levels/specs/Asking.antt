-- Which block of a run is asked for, and how it is given.
use Rattle.std.specs.Prelude.{◌≡◌, ◌⊎◌, ℕ, ◌+◌, ◌*◌, Bool, ◌&&◌, List, [], ◌∷◌, Option, Some, None, option_map, option_and_then, Result, Ok, Err, IfSome, IsTrue, if◌then◌else◌}
use Rattle.lsm_device.specs.declared.refusal.Refusal.{Refusal}
use Rattle.lsm_device.specs.declared.refusal.Refusal.TheVariants.{Io}
use Rattle.lsm_device.specs.Disk.{seen}
use Rattle.lsm_device.specs.Medium.{Medium, disk}
use Rattle.lsm_codec.specs.Keys.{Bytes}
use Rattle.lsm_codec.specs.Versions.{Version, is_version_of}
use Rattle.lsm_codec.specs.Entries.{entries_in}
use Rattle.lsm_filter.specs.Bits.{is_perhaps}
use Rattle.lsm_table.specs.Places.{place_of}
use Rattle.lsm_cache.specs.Recency.{Cached, named_block, bytes_of, sectors_read, IsAsked}
use Rattle.lsm_cache.specs.Reads.{block_at, after_reads, FaultsAmong}
use Rattle.lsm_levels.specs.Tables.{Table, at_most}
use Rattle.lsm_levels.specs.declared.placed.PlacedBlock.{PlacedBlock}

-- whether a key is in the range of a table
abbrev pub covers : Bytes → Table → Bool
covers key t = at_most key t.last && at_most t.first key

-- the table of a run whose range has the key
abbrev pub covering : Bytes → List Table → Option Table
covering key [] = None
covering key (t ∷ rest) = if covers key t then Some t else covering key rest

-- the first sector of a table's data block, where the data area begins with the sector `area`
abbrev pub sector_of : ℕ → Table → ℕ → ℕ
sector_of area t place = area + 8 * (t.start + place)

-- the data block at a place in a table
abbrev pub placed_block : ℕ → Table → ℕ → PlacedBlock
placed_block area t place = record { name = named_block t.number place; sector = sector_of area t place }

-- The block of a table that is asked for: none where the filter says that the table lacks the key, or where no block can
-- hold a version of it that is numbered at most n.
abbrev pub asked_of_table : ℕ → Bytes → ℕ → Table → Option PlacedBlock
asked_of_table area key n t = if is_perhaps t.outline.filter key then option_map (placed_block area t) (place_of t.outline.first t.outline.edges key n) else None

-- the block of a run: of the table whose range has the key
abbrev pub asked_of_run : ℕ → Bytes → ℕ → List Table → Option PlacedBlock
asked_of_run area key n run = option_and_then (asked_of_table area key n) (covering key run)

-- What entries say of a key, read one after the other: the first version of it that is numbered at most n, or that there is
-- none, unless bytes that are no entry come before.
abbrev pub said : Bytes → ℕ → List (Result Version Refusal) → Result (Option Version) Refusal
said key n [] = Ok None
said key n (Ok v ∷ rest) = if is_version_of key n v then Ok (Some v) else said key n rest
said key n (Err refusal ∷ rest) = Err refusal

-- what the bytes of a block say of a key
abbrev pub said_in : Bytes → ℕ → List ℕ → Result (Option Version) Refusal
said_in key n bytes = said key n (entries_in bytes)

-- a cache, and the device that it reads
pub record Source : Type 0 where
  pub cache : Cached
  pub medium : Medium

-- a device was only read
pub record OnlyReads (old new : Medium) : Type 0 where
  pub same_size : new.size ≡ old.size
  pub same_lasting : new.lasting ≡ old.lasting
  pub unchanged : IsTrue old.lasting.tells → new.history ≡ old.history

-- A block is given: as the cache keeps it, or else as the device has it, whose eight sectors are read just then. It is the
-- last one asked for.
pub record IsGiven (block : PlacedBlock) (bytes : List ℕ) (old new : Source) : Type 0 where
  pub kept : IfSome (bytes_of block.name old.cache) (λ kept. bytes ≡ kept)
  pub read : IsTrue old.medium.lasting.tells → bytes_of block.name old.cache ≡ None → bytes ≡ block_at (seen (disk old.medium)) block.sector
  pub keeps : IsAsked block.name bytes old.cache new.cache
  pub counted : new.medium.calls ≡ after_reads (sectors_read block.name old.cache) old.medium.calls
  pub only_reads : OnlyReads old.medium new.medium

-- A block that is not kept is not given: a read of its sectors faulted, the last one. The cache is as it was.
pub record IsDenied (block : PlacedBlock) (old new : Source) : Type 0 where
  pub absent : bytes_of block.name old.cache ≡ None
  pub stays : new.cache ≡ old.cache
  pub faulted : FaultsAmong 8 old.medium.calls new.medium.calls
  pub only_reads : OnlyReads old.medium new.medium

-- the bytes of the block were given, and say this
pub record SaysOnce (key : Bytes) (n : ℕ) (block : PlacedBlock) (says : Result (Option Version) Refusal) (old new : Source) : Type 0 where
  pub bytes : List ℕ
  pub given : IsGiven block bytes old new
  pub is : says ≡ said_in key n bytes

-- what is asked for, if anything, and what it says of the key
abbrev pub Says : Bytes → ℕ → Option PlacedBlock → Result (Option Version) Refusal → Source → Source → Type 0
Says key n None says old new = (says ≡ Ok None) × (new ≡ old)
Says key n (Some block) says old new = SaysOnce key n block says old new ⊎ ((says ≡ Err Io) × IsDenied block old new)
