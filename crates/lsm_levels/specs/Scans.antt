-- Scans: which blocks they ask for, and what is left of their sources.
use Rattle.std.specs.Prelude.{◌≡◌, ◌⊎◌, ◌+◌, ◌*◌, ◌≤◌, ℕ, Bool, true, false, List, [], ◌∷◌, ◌++◌, length, map, set, slice_get, drop, Option, Some, None, Result, Ok, Err, IsTrue}
use denote.Ref.{Bor}
use Rattle.std.specs.List.{AllByRecursion}
use Rattle.lsm_device.specs.declared.refusal.Refusal.{Refusal}
use Rattle.lsm_device.specs.declared.refusal.Refusal.TheVariants.{Io, BadTable}
use Rattle.lsm_device.specs.Calls.{AtMost, faults_after}
use Rattle.lsm_device.specs.Disk.{seen}
use Rattle.lsm_device.specs.Medium.{disk}
use Rattle.lsm_codec.specs.Keys.{Bytes}
use Rattle.lsm_codec.specs.Versions.{Version}
use Rattle.lsm_mem.specs.Paging.{Page}
use Rattle.lsm_mem.specs.Gathering.{Gathering, IsFirst, page_with, page_so_far}
use Rattle.lsm_mem.specs.Versions.{joined}
use Rattle.lsm_cache.specs.declared.name.BlockName.{BlockName}
use Rattle.lsm_cache.specs.Fresh.{IsFresh, IsNumberedBelow}
use Rattle.lsm_levels.specs.Tables.{Table}
use Rattle.lsm_levels.specs.Stored.{AreNumberedBelow, ArePlaced}
use Rattle.lsm_levels.specs.Asking.{Source, OnlyReads, IsGiven, IsDenied}
use Rattle.lsm_levels.specs.Cursors.{Cursor, EndsWithin, GoesOn, IsLeft, IsPlacedAt, Shows, blocks_from_key, is_faultless, present}
use Rattle.lsm_levels.specs.Queues.{IsQueue}
use Rattle.lsm_levels.specs.Sources.{AreInOrder}
use Rattle.lsm_levels.specs.declared.placed.PlacedBlock.{PlacedBlock}

-- ---- blocks that are asked for

-- Blocks are asked for, one after the other. Each is the first that is left of one of these lists, and is taken off it. Each
-- is given, but for the last where the refusal is Io: that one is denied.
abbrev pub AsksInTurn : List (List PlacedBlock) → List PlacedBlock → Option Refusal → Source → Source → Type 0
AsksInTurn left [] refusal old new = (is_faultless refusal ≡ true) × (new ≡ old)
AsksInTurn left (b ∷ asked) refusal old new =
    (i : ℕ) × (rest : List PlacedBlock) × (slice_get left i ≡ Some (b ∷ rest))
    × (((bytes : List ℕ) × (mid : Source) × IsGiven b bytes old mid × AsksInTurn (set left i rest) asked refusal mid new) ⊎ ((refusal ≡ Some Io) × (asked ≡ []) × IsDenied b old new))

-- some of these blocks are asked for
pub record AsksSome (left : List (List PlacedBlock)) (refusal : Option Refusal) (old new : Source) : Type 0 where
  pub asked : List PlacedBlock
  pub in_turn : AsksInTurn left asked refusal old new

-- What was asked for goes on to these blocks that are left, or ends with a refusal.
abbrev pub AsksOn : List (List PlacedBlock) → List (List PlacedBlock) → Option Refusal → Source → Source → Type 0
AsksOn left next None old mid = (refusal : Option Refusal) (new : Source) → AsksSome next refusal mid new → AsksSome left refusal old new
AsksOn left next (Some refusal) old mid = AsksSome left (Some refusal) old mid

-- how many blocks there are in all
abbrev pub blocks_in : List (List PlacedBlock) → ℕ
blocks_in [] = 0
blocks_in (blocks ∷ rest) = length blocks + blocks_in rest

-- the blocks to come of each of these runs from a key on
abbrev pub blocks_of_runs : ℕ → Bytes → List (List Table) → List (List PlacedBlock)
blocks_of_runs area key runs = map (blocks_from_key area key) runs

-- What a scan of runs asks for: blocks of each run in turn, from the first on that doesn't end before the key, each once at
-- most. The device is read alone, eight sectors a block at most, and refused with Io only for a read that faulted, its last.
-- The blocks of the cache go on to be those of the device, of tables with numbers below any that all have been below.
pub record ScansRuns (area : ℕ) (key : Bytes) (runs : List (List Table)) (refusal : Option Refusal) (old new : Source) : Type 0 where
  pub asks : AsksSome (blocks_of_runs area key runs) refusal old new
  pub reads : OnlyReads old.medium new.medium
  pub at_most : AtMost (8 * blocks_in (blocks_of_runs area key runs)) 0 0 old.medium.calls new.medium.calls
  pub faults : new.medium.calls.faults ≡ faults_after (is_faultless refusal) old.medium.calls.faults
  pub stops : refusal ≡ Some Io → IsTrue new.medium.calls.last_faulted
  pub numbered : (number : ℕ) → AreNumberedBelow number runs → IsNumberedBelow number old.cache → IsNumberedBelow number new.cache
  pub fresh : (place : BlockName → Option ℕ) → IsTrue old.medium.lasting.tells → ArePlaced place area runs → IsFresh place (seen (disk old.medium)) old.cache → IsFresh place (seen (disk new.medium)) new.cache

-- ---- sources

-- the blocks to come of each of these cursors
abbrev pub blocks_to_come : List Cursor → List (List PlacedBlock)
blocks_to_come cursors = map (λ c. c.blocks) cursors

-- they lie within the first `size` sectors
abbrev pub AreEndingWithin : ℕ → List Cursor → Type 0
AreEndingWithin size cursors = AllByRecursion (λ c. AllByRecursion (EndsWithin size) c.blocks) cursors

-- The cursor at a place goes on to its next version.
pub record Advances (i : ℕ) (cursors next : List Cursor) (refusal : Option Refusal) (old new : Source) : Type 0 where
  pub cursor : Cursor
  pub at : slice_get cursors i ≡ Some cursor
  pub then : Cursor
  pub is : next ≡ set cursors i then
  pub goes_on : GoesOn (drop 1 cursor.items) cursor.blocks then refusal old new
  pub few : refusal ≡ None → length then.items ≤ length cursor.items + 4097

-- an item is a version, or says that the bytes of its block are no entry
abbrev pub IsFairItem : Result Version Refusal → Type 0
IsFairItem (Ok v) = Unit {0}
IsFairItem (Err refusal) = refusal ≡ BadTable

-- cursors with such items, whose blocks to come lie within the first `size` sectors
pub record AreReady (size : ℕ) (cursors : List Cursor) : Type 0 where
  pub within : AreEndingWithin size cursors
  pub fair : AllByRecursion (λ c. AllByRecursion IsFairItem c.items) cursors

-- Cursors from which a page is gathered: the queue has those that have a version left, and the page has left out no row yet.
pub record CanGoOn (size : ℕ) (g : Gathering) (cursors : List Cursor) (places : List ℕ) : Type 0 where
  pub queued : IsQueue (map present cursors) (λ j. true) places
  pub going : g.next ≡ None
  pub ready : AreReady size cursors

-- a bound on how often a cursor can go on, where no block has more than 4,097 items
abbrev pub steps_of : Cursor → ℕ
steps_of c = length c.items + 4099 * length c.blocks

abbrev pub steps_left : List Cursor → ℕ
steps_left [] = 0
steps_left (c ∷ rest) = steps_of c + steps_left rest

-- ---- what is left

-- just these versions are left of a cursor, whose blocks stand in their places
pub record GivesLeft (place : BlockName → Option ℕ) (sectors : List (List ℕ)) (versions : List Version) (c : Cursor) : Type 0 where
  pub left : IsLeft sectors versions c
  pub placed : AllByRecursion (IsPlacedAt place) c.blocks

-- so it is with each cursor
abbrev pub AllGive : (BlockName → Option ℕ) → List (List ℕ) → List (List Version) → List Cursor → Type 0
AllGive place sectors [] [] = Unit {0}
AllGive place sectors [] (c ∷ cursors) = ⊥
AllGive place sectors (versions ∷ lefts) [] = ⊥
AllGive place sectors (versions ∷ lefts) (c ∷ cursors) = GivesLeft place sectors versions c × AllGive place sectors lefts cursors

-- The versions that are left of cursors come to a page.
pub record ComesTo (place : BlockName → Option ℕ) (sectors : List (List ℕ)) (page : Page) (g : Gathering) (cursors : List Cursor) (s : Source) : Type 0 where
  pub lefts : List (List Version)
  pub gives : AllGive place sectors lefts cursors
  pub order : AreInOrder lefts
  pub whole : page_with g (joined lefts) ≡ page
  pub shows : Shows place sectors s

-- the page has come: no version is left, or it has ended
abbrev pub HasCome : Page → Gathering → Type 0
HasCome page g = ((g.next ≡ None) × (page_with g [] ≡ page)) ⊎ (page_so_far g ≡ page)

-- A version is taken, after which the page goes on.
pub record TakesOn (v : Version) (old new : Gathering) : Type 0 where
  pub same : (newer older : List Version) → IsFirst v (newer ++ older) → page_with new (newer ++ older) ≡ page_with old (newer ++ v ∷ older)
  pub going : new.next ≡ None

-- It is taken, and the page ends.
pub record TakesLast (v : Version) (old new : Gathering) : Type 0 where
  pub same : (newer older : List Version) → IsFirst v (newer ++ older) → page_so_far new ≡ page_with old (newer ++ v ∷ older)

abbrev pub Takes : Version → Gathering → Gathering → Bool → Type 0
Takes v old new true = TakesOn v old new
Takes v old new false = TakesLast v old new

-- whether the page goes on or has come
abbrev pub Goes : (BlockName → Option ℕ) → List (List ℕ) → Page → Gathering → List Cursor → Source → Bool → Type 0
Goes place sectors page g cursors s true = ComesTo place sectors page g cursors s
Goes place sectors page g cursors s false = HasCome page g

-- the places of memory: present and sealed
abbrev pub memory_places : List Version → Option (Bor (List Version)) → List (List Version)
memory_places memory None = memory ∷ []
memory_places memory (Some sealed) = memory ∷ sealed.now ∷ []
