-- Where the outputs of a job are placed.
use Rattle.std.specs.Prelude.{◌≡◌, ◌≢◌, ◌⊎◌, ℕ, ◌+◌, ◌^◌, ◌≤◌, List, [], ◌∷◌, length, Contains, Some}
use Rattle.std.specs.List.{AllByRecursion}
use Rattle.lsm_extent.specs.declared.extent.Extent.{Extent}
use Rattle.lsm_extent.specs.Area.{Area, IsLowestFit, HasNoFit, handed_out, given_back}
use Rattle.lsm_table.specs.Division.{TableBlocks}
use Rattle.lsm_table.specs.Extents.{extent_size}
use Rattle.lsm_merge.specs.Inputs.{MergeInput}
use Rattle.lsm_levels.specs.Tables.{Table}
use Rattle.lsm_jobs.specs.Slots.{Frozen, Writing, Slot, JobSlots, slot_of, with_held}
use Rattle.lsm_jobs.specs.Outputs.{IsTableOf, placed_blocks}

-- the extent of a table
abbrev pub extent_of : Table → Extent
extent_of t = record { first = t.start; blocks = t.blocks }

-- the area with the extents of tables handed out, one after the other
abbrev pub all_handed_out : List Table → Area → Area
all_handed_out [] area = area
all_handed_out (t ∷ rest) area = all_handed_out rest (handed_out (extent_of t) area)

-- the area with them given back, the last one first
abbrev pub all_given_back : List Table → Area → Area
all_given_back [] area = area
all_given_back (t ∷ rest) area = given_back (extent_of t) (all_given_back rest area)

-- the extents of tables are handed out, and no two of them begin with one block
abbrev pub AreHandedOut : List Table → Area → Type 0
AreHandedOut [] area = Unit {0}
AreHandedOut (t ∷ rest) area = Contains area.held (extent_of t) × AllByRecursion (λ u. u.start ≢ t.start) rest × AreHandedOut rest area

-- An image is placed under a number: this is its table, at the lowest free run of its blocks.
pub record IsPlaced (number : ℕ) (area : Area) (image : TableBlocks) (t : Table) : Type 0 where
  pub of : IsTableOf image t
  pub number_is : t.number ≡ number
  pub blocks : t.blocks ≡ extent_size image
  pub lowest : IsLowestFit area (extent_size image) t.start

-- images are placed one after the other, under the numbers from one on
abbrev pub ArePlaced : ℕ → Area → List TableBlocks → List Table → Type 0
ArePlaced number area [] [] = Unit {0}
ArePlaced number area (image ∷ images) (t ∷ tables) = IsPlaced number area image t × ArePlaced (number + 1) (handed_out (extent_of t) area) images tables
ArePlaced number area [] (t ∷ tables) = ⊥
ArePlaced number area (image ∷ images) [] = ⊥

-- one of the images finds no room, where those before it are placed so
abbrev pub FindNoRoom : Area → List TableBlocks → Type 0
FindNoRoom area [] = ⊥
FindNoRoom area (image ∷ rest) =
    HasNoFit area (extent_size image) ⊎ ((start : ℕ) × IsLowestFit area (extent_size image) start × FindNoRoom (handed_out (record { first = start; blocks = extent_size image }) area) rest)

-- Images are placed as these tables under the numbers from one on: they find room, each within the area, and their extents
-- are handed out.
pub record IsPlacing (number : ℕ) (images : List TableBlocks) (area area_then : Area) (tables : List Table) : Type 0 where
  pub placed : ArePlaced number area images tables
  pub room : FindNoRoom area images → ⊥
  pub taken : area_then ≡ all_handed_out tables area
  pub held : AreHandedOut tables area_then
  pub inside : AllByRecursion (λ t. t.start + t.blocks ≤ area.blocks) tables

-- A result is accepted for a job, whose input is that of the result: its images are placed, and all of their blocks are left
-- to write.
pub record IsAccepted (job next_table : ℕ) (input : MergeInput) (images : List TableBlocks) (area area_then : Area) (old new : JobSlots) : Type 0 where
  pub slot : Slot
  pub found : slot_of job old.slots ≡ Some slot
  pub frozen : slot.stage ≡ Frozen
  pub own : slot.input ≡ input
  pub numbers : next_table + length images ≤ 2 ^ 63 + 1
  pub tables : List Table
  pub placing : IsPlacing next_table images area area_then tables
  pub staged : new ≡ record { next = old.next; slots = with_held job (Some (record slot { stage = Writing tables (length (placed_blocks tables)) })) old.slots }
