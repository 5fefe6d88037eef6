-- Jobs in slots have what they were taken with, and share no table.
use Rattle.std.specs.Prelude.{◌≡◌, ◌≢◌, ℕ, suc, ◌<◌, List, [], ◌∷◌, Some, None}
use Rattle.lsm_levels.specs.Among.{IsAmong}
use Rattle.lsm_levels.specs.Tables.{Table}
use Rattle.lsm_levels.specs.Levels.{Levels}
use Rattle.lsm_levels.specs.Pick.{is_bottom, installed_levels}
use Rattle.lsm_levels.specs.Held.{AreRuns, IsHeld, AreApart, AreOutputs, MayTake}
use Rattle.lsm_jobs.specs.Slots.{Slot, Slots, slot_of, held_jobs, with_slot, with_held}

-- no two jobs have one number
abbrev pub AreNumbered : Slots → Type 0
AreNumbered [] = Unit {0}
AreNumbered (None ∷ rest) = AreNumbered rest
AreNumbered (Some slot ∷ rest) = (slot_of slot.number rest ≡ None) × AreNumbered rest

-- Each job has its tables in the levels, no two of them share one, and their numbers differ and were given out.
pub record AreKept (levels : Levels) (next : ℕ) (slots : Slots) : Type 0 where
  pub held : (s : Slot) → IsAmong (Some s) slots → IsHeld levels s.input.bottom s.job
  pub apart : (a b : Slot) → IsAmong (Some a) slots → IsAmong (Some b) slots → a.number ≢ b.number → AreApart a.job b.job
  pub given : (s : Slot) → IsAmong (Some s) slots → s.number < next
  pub numbered : AreNumbered slots

-- a taking of a job that may be taken, with its bottom flag
abbrev pub TakingLaw : Type 0
TakingLaw = (levels : Levels) (next : ℕ) (slots : Slots) (new : Slot) → AreKept levels next slots
    → MayTake levels (held_jobs slots) new.job → new.number ≡ next → new.input.bottom ≡ is_bottom levels new.job → AreKept levels (suc next) (with_slot new slots)

-- an install of one job's outputs, whose slot is free then
abbrev pub InstallingLaw : Type 0
InstallingLaw = (levels : Levels) (next : ℕ) (slots : Slots) (one : Slot) (new : List Table) → AreRuns levels → AreKept levels next slots → slot_of one.number slots ≡ Some one → AreOutputs one.job new
    → AreKept (installed_levels levels one.job new) next (with_held one.number None slots)

-- one job goes on, with its tables and its bottom flag
abbrev pub GoingOnLaw : Type 0
GoingOnLaw = (levels : Levels) (next : ℕ) (slots : Slots) (one now : Slot) → AreKept levels next slots → slot_of one.number slots ≡ Some one
    → now.number ≡ one.number → now.job ≡ one.job → now.input.bottom ≡ one.input.bottom → AreKept levels next (with_held one.number (Some now) slots)

-- one slot is free again
abbrev pub FreeingLaw : Type 0
FreeingLaw = (levels : Levels) (next number : ℕ) (slots : Slots) → AreKept levels next slots → AreKept levels next (with_held number None slots)

-- A job that is found is in a slot, under its number, and what comes in its place is found there.
pub record FoundLaw : Type 0 where
  pub there : (number : ℕ) (slots : Slots) (slot : Slot) → slot_of number slots ≡ Some slot → IsAmong (Some slot) slots
  pub number : (number : ℕ) (slots : Slots) (slot : Slot) → slot_of number slots ≡ Some slot → slot.number ≡ number
  pub replaced : (number : ℕ) (slots : Slots) (slot new : Slot) → slot_of number slots ≡ Some slot → new.number ≡ number → slot_of number (with_held number (Some new) slots) ≡ Some new
