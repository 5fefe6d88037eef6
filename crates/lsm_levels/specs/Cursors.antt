-- Cursors over runs: which blocks they ask for, and what is left of them.
use Rattle.std.specs.Prelude.{◌≡◌, ◌⊎◌, ℕ, ◌+◌, ◌-◌, ◌^◌, ◌<◌, ◌≤◌, Bool, true, false, IsTrue, List, [], ◌∷◌, ◌++◌, length, map, filter, drop, slice_get, Option, Some, None, Result, Ok, Err, MatchResult, if◌then◌else◌}
use Rattle.std.specs.List.{AllByRecursion, flat_map}
use Rattle.lsm_device.specs.declared.refusal.Refusal.{Refusal}
use Rattle.lsm_device.specs.declared.refusal.Refusal.TheVariants.{NoMemory, Io, BadTable}
use Rattle.lsm_device.specs.Calls.{AtMost, faults_after}
use Rattle.lsm_device.specs.Disk.{seen}
use Rattle.lsm_device.specs.Medium.{disk}
use Rattle.lsm_device.specs.Refusals.{faultless}
use Rattle.lsm_codec.specs.Keys.{Bytes}
use Rattle.lsm_codec.specs.Indexes.{Edge}
use Rattle.lsm_codec.specs.Versions.{Version}
use Rattle.lsm_codec.specs.Entries.{entries_in}
use Rattle.lsm_table.specs.Items.{first_version}
use Rattle.lsm_table.specs.Places.{blocks_before}
use Rattle.lsm_cache.specs.declared.name.BlockName.{BlockName}
use Rattle.lsm_cache.specs.Reads.{block_at}
use Rattle.lsm_cache.specs.Fresh.{IsFresh, IsNumberedBelow}
use Rattle.lsm_mem.specs.Ranges.{from_key}
use Rattle.lsm_levels.specs.Tables.{Table, IsRun, at_most, is_below, versions_of}
use Rattle.lsm_levels.specs.Stored.{IsReadable}
use Rattle.lsm_levels.specs.Asking.{Source, OnlyReads, IsGiven, IsDenied, placed_block}
use Rattle.lsm_levels.specs.declared.placed.PlacedBlock.{PlacedBlock}

-- ---- the data blocks of tables

-- as many data blocks of a table as there are edges, from this place on
abbrev pub blocks_at : ℕ → Table → ℕ → List Edge → List PlacedBlock
blocks_at area t place [] = []
blocks_at area t place (e ∷ edges) = placed_block area t place ∷ blocks_at area t (place + 1) edges

-- the data blocks of a table, in order
abbrev pub blocks_of_table : ℕ → Table → List PlacedBlock
blocks_of_table area t = blocks_at area t 0 t.outline.edges

-- the data blocks of tables, in order
abbrev pub blocks_of : ℕ → List Table → List PlacedBlock
blocks_of area [] = []
blocks_of area (t ∷ rest) = blocks_of_table area t ++ blocks_of area rest

-- the data blocks of tables without the first n of the first table
abbrev pub blocks_left : ℕ → ℕ → List Table → List PlacedBlock
blocks_left area n [] = []
blocks_left area n (t ∷ rest) = drop n (blocks_of_table area t) ++ blocks_of area rest

-- how many data blocks the first of these tables has
abbrev pub first_count : List Table → ℕ
first_count [] = 0
first_count (t ∷ rest) = length t.outline.edges

-- how many data blocks of the first of these tables end before a key, as its index tells
abbrev pub passed_blocks : Bytes → List Table → ℕ
passed_blocks key [] = 0
passed_blocks key (t ∷ rest) = blocks_before key t.outline.edges

-- the data blocks of these tables from the first on that doesn't end before a key
abbrev pub blocks_behind : ℕ → Bytes → List Table → List PlacedBlock
blocks_behind area key tables = blocks_left area (passed_blocks key tables) tables

-- the data blocks of a run that may have versions from a key on
abbrev pub blocks_from_key : ℕ → Bytes → List Table → List PlacedBlock
blocks_from_key area key run = blocks_behind area key (filter (λ t. at_most key t.last) run)

-- a block lies within the first `size` sectors
abbrev pub EndsWithin : ℕ → PlacedBlock → Type 0
EndsWithin size block = block.sector + 8 ≤ size

-- not all blocks of the first table are passed, and those that are left lie within the sectors that there can be
pub record AreLeft (area n : ℕ) (tables : List Table) : Type 0 where
  pub inside : n ≤ first_count tables - 1
  pub within : AllByRecursion (EndsWithin (2 ^ 32)) (blocks_left area n tables)

-- the place of a block is where it begins
abbrev pub IsPlacedAt : (BlockName → Option ℕ) → PlacedBlock → Type 0
IsPlacedAt place block = place block.name ≡ Some block.sector

-- the device tells that it holds these sectors, and the cache keeps blocks of them alone
pub record Shows (place : BlockName → Option ℕ) (sectors : List (List ℕ)) (s : Source) : Type 0 where
  pub tells : IsTrue s.medium.lasting.tells
  pub holds : seen (disk s.medium) ≡ sectors
  pub fresh : IsFresh place sectors s.cache

-- ---- cursors

abbrev pub Items : Type 0
Items = List (Result Version Refusal)

-- A cursor: what is left of its block, the present entry first, and the blocks to come.
pub record Cursor : Type 0 where
  pub items : Items
  pub blocks : List PlacedBlock

-- the refusal among items that comes first, if one does
abbrev pub first_refusal : Items → Option Refusal
first_refusal [] = None
first_refusal (Ok v ∷ rest) = None
first_refusal (Err refusal ∷ rest) = Some refusal

-- the refusal of an answer, if it is one
abbrev pub refusal_of : {X : Type 0} → Result X Refusal → Option Refusal
refusal_of (Ok x) = None
refusal_of (Err refusal) = Some refusal

-- the version at which a cursor stands
abbrev pub present : Cursor → Option Version
present c = first_version c.items

-- whether an item is passed on the way to a key: a version of a key below it
abbrev pub is_passed : Bytes → Result Version Refusal → Bool
is_passed key (Ok v) = is_below v.key key
is_passed key (Err refusal) = false

-- the items of a block from the first on that isn't passed; a block without one is bad
abbrev pub sought : Bytes → Items → Items
sought key [] = Err BadTable ∷ []
sought key (item ∷ rest) = if is_passed key item then sought key rest else item ∷ rest

-- a cursor stands at the first of these items, and is refused where that is no version
pub record StandsAt (items : Items) (blocks : List PlacedBlock) (c : Cursor) (refusal : Option Refusal) : Type 0 where
  pub stands : c ≡ record { items = items; blocks = blocks }
  pub refused : refusal ≡ first_refusal items

-- A block is asked for. Where it is given, a cursor stands at what is picked of its items.
abbrev pub Enters : (Items → Items) → PlacedBlock → List PlacedBlock → Cursor → Option Refusal → Source → Source → Type 0
Enters pick block rest c refusal old new =
    ((bytes : List ℕ) × IsGiven block bytes old new × StandsAt (pick (entries_in bytes)) rest c refusal) ⊎ ((refusal ≡ Some Io) × (c.blocks ≡ rest) × IsDenied block old new)

-- whether an item is left
abbrev pub has_item : Items → Bool
has_item [] = false
has_item (item ∷ rest) = true

-- a block is asked for, and where it is given all its items are left
abbrev pub Loads : PlacedBlock → List PlacedBlock → Cursor → Option Refusal → Source → Source → Type 0
Loads block rest c refusal old new =
    ((bytes : List ℕ) × IsGiven block bytes old new × (c ≡ record { items = entries_in bytes; blocks = rest }) × (refusal ≡ None)) ⊎ ((refusal ≡ Some Io) × (c.blocks ≡ rest) × IsDenied block old new)

-- so it is with the first of these blocks, if there is one
abbrev pub EntersNext : List PlacedBlock → Cursor → Option Refusal → Source → Source → Type 0
EntersNext [] c refusal old new = (c ≡ record { items = []; blocks = [] }) × (refusal ≡ None) × (new ≡ old)
EntersNext (block ∷ rest) c refusal old new = Loads block rest c refusal old new

-- A cursor goes on to the first of these items, or else to the first of the next block.
abbrev pub GoesOn : Items → List PlacedBlock → Cursor → Option Refusal → Source → Source → Type 0
GoesOn (item ∷ items) blocks c refusal old new = StandsAt (item ∷ items) blocks c refusal × (new ≡ old)
GoesOn [] [] c refusal old new = StandsAt [] [] c refusal × (new ≡ old)
GoesOn [] (block ∷ rest) c refusal old new = Enters (λ items. items) block rest c refusal old new

-- A cursor seeks a key in the first of these blocks.
abbrev pub Seeks : Bytes → List PlacedBlock → Cursor → Option Refusal → Source → Source → Type 0
Seeks key [] c refusal old new = StandsAt [] [] c refusal × (new ≡ old)
Seeks key (block ∷ rest) c refusal old new = Enters (sought key) block rest c refusal old new

-- A cursor is made, and seeks a key; or memory for it is refused.
abbrev pub SeeksTo : Bytes → List PlacedBlock → Result Cursor Refusal → Source → Source → Type 0
SeeksTo key blocks (Ok c) old new = Seeks key blocks c None old new
SeeksTo key blocks (Err refusal) old new = ((refusal ≡ NoMemory) × (new ≡ old)) ⊎ ((c : Cursor) × Seeks key blocks c (Some refusal) old new)

abbrev lone : Refusal → Result (Option Version) Refusal
lone refusal = Err refusal

-- whether a refusal isn't that of a read that faulted
abbrev pub is_faultless : Option Refusal → Bool
is_faultless None = true
is_faultless (Some refusal) = faultless (lone refusal)

-- At most one of these blocks is asked for: the device is read alone, eight sectors at most, and refused with Io only for a read
-- that faulted, its last. The cache keeps blocks of tables with numbers below any that those of these blocks are below.
pub record AsksOnce (blocks : List PlacedBlock) (refusal : Option Refusal) (old new : Source) : Type 0 where
  pub reads : OnlyReads old.medium new.medium
  pub at_most : AtMost 8 0 0 old.medium.calls new.medium.calls
  pub faults : new.medium.calls.faults ≡ faults_after (is_faultless refusal) old.medium.calls.faults
  pub stops : refusal ≡ Some Io → IsTrue new.medium.calls.last_faulted
  pub numbered : (number : ℕ) → AllByRecursion (λ block. block.name.table < number) blocks → IsNumberedBelow number old.cache → IsNumberedBelow number new.cache

-- what is left of a cursor where its blocks stand in these sectors
abbrev pub left_in : List (List ℕ) → Cursor → Items
left_in sectors c = c.items ++ flat_map (λ block. entries_in (block_at sectors block.sector)) c.blocks

-- Just these versions are left of a cursor where its blocks stand in these sectors, and it stands at the first.
pub record IsLeft (sectors : List (List ℕ)) (versions : List Version) (c : Cursor) : Type 0 where
  pub stands : present c ≡ slice_get versions 0
  pub left : left_in sectors c ≡ map (λ v. Ok v) versions

-- A cursor gives just these versions, out of the blocks of the device and the cache as they are.
pub record Gives (place : BlockName → Option ℕ) (sectors : List (List ℕ)) (versions : List Version) (c : Cursor) (s : Source) : Type 0 where
  pub left : IsLeft sectors versions c
  pub placed : AllByRecursion (IsPlacedAt place) c.blocks
  pub shows : Shows place sectors s

-- What a cursor gives where the tables of its run stand in the device: just the run's versions from the key on, in order, one
-- after the other, unless a read faults, or memory is refused when it is made.
pub record CursorLaw : Type 0 where
  pub seeks : (place : BlockName → Option ℕ) (area : ℕ) (key : Bytes) (run : List Table) (result : Result Cursor Refusal) (old new : Source) → IsRun run → IsReadable place area (run ∷ []) old → SeeksTo key (blocks_from_key area key run) result old new
      → MatchResult result (λ c. Gives place (seen (disk old.medium)) (from_key key (versions_of run)) c new) (λ refusal. (refusal ≡ Io) ⊎ (refusal ≡ NoMemory))
  pub goes_on : (place : BlockName → Option ℕ) (sectors : List (List ℕ)) (versions : List Version) (c next : Cursor) (refusal : Option Refusal) (old new : Source) → Gives place sectors versions c old → GoesOn (drop 1 c.items) c.blocks next refusal old new
      → ((refusal ≡ None) × Gives place sectors (drop 1 versions) next new) ⊎ (refusal ≡ Some Io)
