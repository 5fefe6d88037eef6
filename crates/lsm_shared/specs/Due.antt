-- Which slots are due: those that hold jobs, and free ones only for a flush.
use Rattle.std.specs.Prelude.{◌≡◌, ℕ, Bool, true, false, not, ◌&&◌, is_some, List, [], ◌∷◌, ◌++◌, map, filter, slice_index_or, Option, Some, None, if◌then◌else◌}
use Rattle.std.specs.List.{list_any}
use Rattle.lsm_jobs.specs.Slots.{Slot, Slots, held_jobs, slot_of}
use Rattle.lsm_levels.specs.Pick.{is_flush, is_merge, inputs}
use Rattle.lsm_levels.specs.Tables.{Table}
use Rattle.lsm_machine.specs.Machine.{Machine}
use Rattle.lsm_machine.specs.Pieces.{next_among, places_from}
use Rattle.lsm_machine.specs.State.{are_waiting}
use Rattle.lsm_machine.specs.Work.{Work}

-- a store runs, a flush waits, and no slot holds it
abbrev pub is_flush_due : Machine → Bool
is_flush_due m = not (is_some m.state.stopped) && (are_waiting m.state && not (list_any is_flush (held_jobs m.work.jobs.slots)))

-- whether a slot holds a merge
abbrev pub holds_merge : Machine → Bool
holds_merge m = list_any is_merge (held_jobs m.work.jobs.slots)

abbrev pub are_none : List Table → Bool
are_none [] = true
are_none (t ∷ more) = false

-- whether a job takes in no table: a flush, since a merge takes in some
abbrev pub takes_in_none : Option Slot → Bool
takes_in_none None = true
takes_in_none (Some slot) = are_none (inputs slot.job)

-- whether a slot is asked first: a free one if a flush is due, and one that holds a flush
abbrev pub is_for_flush : Bool → Slots → Option Slot → Bool
is_for_flush due slots None = due
is_for_flush due slots (Some slot) = takes_in_none (slot_of slot.number slots)

-- whether a slot holds a merge
abbrev pub is_for_merge : Slots → Option Slot → Bool
is_for_merge slots None = false
is_for_merge slots (Some slot) = not (takes_in_none (slot_of slot.number slots))

-- the same of the slot at a place
abbrev pub has_flush_at : Machine → ℕ → Bool
has_flush_at m place = is_for_flush (is_flush_due m) m.work.jobs.slots (slice_index_or m.work.jobs.slots place None)

abbrev pub has_merge_at : Machine → ℕ → Bool
has_merge_at m place = is_for_merge m.work.jobs.slots (slice_index_or m.work.jobs.slots place None)

-- The places that are due, from that of a number on, round: first that of the flush, or the free ones where a flush is due, and then
-- those of merges.
abbrev pub places_due : Machine → ℕ → List ℕ
places_due m number = filter (has_flush_at m) (places_from number) ++ filter (has_merge_at m) (places_from number)

-- these places, but 4, which is that of no slot, in the place of each that fails a test
abbrev pub or_none : (ℕ → Bool) → List ℕ → List ℕ
or_none passes places = map (λ place. if passes place then place else 4) places

-- the same with 4 for each that is not due
abbrev pub due_or_none : Machine → ℕ → List ℕ
due_or_none m number = or_none (has_flush_at m) (places_from number) ++ or_none (has_merge_at m) (places_from number)

-- the next piece of the places that are due, for a client of this number
abbrev pub next_due : Machine → ℕ → Option Work
next_due m number = next_among m (places_due m number)

-- a policy may take a merge: no flush is to be taken first, and no other merge is held
pub record MayMerge (m : Machine) : Type 0 where
  pub flushed : is_flush_due m ≡ false
  pub alone : holds_merge m ≡ false
