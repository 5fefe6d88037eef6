-- The slots of jobs.
use Rattle.std.specs.Prelude.{ℕ, ◌-◌, Bool, true, false, not, ◌==◌, is_none, List, [], ◌∷◌, filter_map, Option, Some, None, option_map, if◌then◌else◌}
use Rattle.std.specs.List.{list_any}
use Rattle.lsm_merge.specs.Inputs.{MergeInput}
use Rattle.lsm_levels.specs.Tables.{Table}
use Rattle.lsm_levels.specs.Pick.{Job, inputs}

-- how far a job is
pub data Stage : Type 0 where
  -- n data blocks are left to read
  Reading : ℕ → Stage
  -- its input is whole
  Frozen : Stage
  -- its outputs are placed, and n of their blocks are left to write
  Writing : List Table → ℕ → Stage

pub record Slot : Type 0 where
  pub number : ℕ
  pub job : Job
  -- what its merge is given; while it is reading, what this will be
  pub input : MergeInput
  pub stage : Stage

abbrev pub Slots : Type 0
Slots = List (Option Slot)

-- the number of the next job, and the slots
pub record JobSlots : Type 0 where
  pub next : ℕ
  pub slots : Slots

-- no slot is held, and no number was given out
abbrev pub no_jobs : JobSlots
no_jobs = record { next = 1; slots = None ∷ None ∷ None ∷ None ∷ [] }

-- the slot of the job of a number
abbrev pub slot_of : ℕ → Slots → Option Slot
slot_of number [] = None
slot_of number (None ∷ rest) = slot_of number rest
slot_of number (Some slot ∷ rest) = if slot.number == number then Some slot else slot_of number rest

-- the jobs that hold slots
abbrev pub held_jobs : Slots → List Job
held_jobs slots = filter_map (λ held. option_map (λ slot. slot.job) held) slots

abbrev pub has_free : Slots → Bool
has_free slots = list_any is_none slots

-- with a job in the least free slot
abbrev pub with_slot : Slot → Slots → Slots
with_slot slot [] = []
with_slot slot (None ∷ rest) = Some slot ∷ rest
with_slot slot (Some held ∷ rest) = Some held ∷ with_slot slot rest

-- with the slot of this number so, or free
abbrev pub with_held : ℕ → Option Slot → Slots → Slots
with_held number now [] = []
with_held number now (None ∷ rest) = None ∷ with_held number now rest
with_held number now (Some held ∷ rest) = if held.number == number then now ∷ rest else Some held ∷ with_held number now rest

-- with the job of this slot at a stage
abbrev pub at_stage : Slot → Stage → Slots → Slots
at_stage slot stage slots = with_held slot.number (Some (record slot { stage = stage })) slots

abbrev pub is_reading : Stage → Bool
is_reading (Reading left) = true
is_reading Frozen = false
is_reading (Writing tables left) = false

abbrev pub is_frozen : Stage → Bool
is_frozen (Reading left) = false
is_frozen Frozen = true
is_frozen (Writing tables left) = false

abbrev pub is_writing : Stage → Bool
is_writing (Reading left) = false
is_writing Frozen = false
is_writing (Writing tables left) = true

-- whether all blocks of its outputs are written
abbrev pub is_written : Stage → Bool
is_written (Reading left) = false
is_written Frozen = false
is_written (Writing tables left) = left == 0

-- the blocks that are left, to read or to write
abbrev pub left_at : Stage → ℕ
left_at (Reading left) = left
left_at Frozen = 0
left_at (Writing tables left) = left

-- with n fewer blocks left to write
abbrev pub less_left : ℕ → Stage → Stage
less_left count (Reading left) = Reading left
less_left count Frozen = Frozen
less_left count (Writing tables left) = Writing tables (left - count)

-- the outputs that are placed
abbrev pub outputs_at : Stage → List Table
outputs_at (Reading left) = []
outputs_at Frozen = []
outputs_at (Writing tables left) = tables

-- whether there is a job, and its stage is no such
abbrev pub is_not_at : (Stage → Bool) → Option Slot → Bool
is_not_at test None = false
is_not_at test (Some slot) = not (test slot.stage)

-- the outputs of a job, if there is one
abbrev pub outputs_of : Option Slot → List Table
outputs_of None = []
outputs_of (Some slot) = outputs_at slot.stage

-- the tables that a job takes in, if there is one
abbrev pub inputs_of : Option Slot → List Table
inputs_of None = []
inputs_of (Some slot) = inputs slot.job

-- the data blocks that are left to read at a stage, and the blocks that are left to write
abbrev pub left_to_read : Stage → ℕ
left_to_read (Reading left) = left
left_to_read Frozen = 0
left_to_read (Writing tables left) = 0

abbrev pub left_to_write : Stage → ℕ
left_to_write (Reading left) = 0
left_to_write Frozen = 0
left_to_write (Writing tables left) = left

-- those of a job, if there is one
abbrev pub to_read : Option Slot → ℕ
to_read None = 0
to_read (Some slot) = left_to_read slot.stage

abbrev pub to_write : Option Slot → ℕ
to_write None = 0
to_write (Some slot) = left_to_write slot.stage
