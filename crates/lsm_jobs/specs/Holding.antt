-- The places of slots.
use Rattle.std.specs.Prelude.{◌≡◌, ℕ, ◌+◌, ◌<◌, ◌==◌, Bool, false, is_none, [], ◌∷◌, length, slice_index_or, slice_set, Option, Some, None, if◌then◌else◌}
use Rattle.lsm_levels.specs.Pick.{Job}
use Rattle.lsm_merge.specs.Inputs.{MergeInput}
use Rattle.lsm_jobs.specs.Outputs.{Placed}
use Rattle.lsm_jobs.specs.Slots.{Slot, Slots, Frozen, Writing, slot_of, with_held}

-- whether a slot holds a job that passes a test
abbrev pub holds : (Job → Bool) → Option Slot → Bool
holds p None = false
holds p (Some slot) = p slot.job

-- whether it holds the job of a number
abbrev pub has_number : ℕ → Option Slot → Bool
has_number number None = false
has_number number (Some slot) = slot.number == number

-- the first free place, counted from n on
abbrev pub free_from : ℕ → Slots → Option ℕ
free_from n [] = None
free_from n (held ∷ rest) = if is_none held then Some n else free_from (n + 1) rest

-- the place of the job of a number, counted from n on
abbrev pub place_from : ℕ → ℕ → Slots → Option ℕ
place_from n number [] = None
place_from n number (held ∷ rest) = if has_number number held then Some n else place_from (n + 1) number rest

-- The job of a number holds the slot at this place.
pub record IsAt (number : ℕ) (slots : Slots) (place : ℕ) (slot : Slot) : Type 0 where
  pub within : place < length slots
  pub there : (d : Option Slot) → slice_index_or slots place d ≡ Some slot
  pub is : slot_of number slots ≡ Some slot
  pub set : (now : Option Slot) → slice_set slots place now ≡ with_held number now slots

-- The job of a number holds it, and is frozen with this input.
pub record IsFrozenAt (number : ℕ) (slots : Slots) (place : ℕ) (input : MergeInput) : Type 0 where
  pub slot : Slot
  pub at : IsAt number slots place slot
  pub frozen : slot.stage ≡ Frozen
  pub own : slot.input ≡ input

-- The job of a number holds it, and is writing these outputs.
pub record IsWritingAt (number : ℕ) (slots : Slots) (place : ℕ) (outputs : Placed) : Type 0 where
  pub slot : Slot
  pub at : IsAt number slots place slot
  pub stage : slot.stage ≡ Writing outputs.tables outputs.left
