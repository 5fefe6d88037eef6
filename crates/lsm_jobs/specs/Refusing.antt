-- Why a call on a job is refused. The conditions of two refusals exclude each other, and so do they and what an Ok says; so
-- a refusal comes exactly where its condition holds, but that NoMemory may come in the place of NoSpace or of an Ok.
use Rattle.std.specs.Prelude.{◌≡◌, ◌≢◌, ◌⊎◌, ◌<◌, ◌≤◌, ◌+◌, ◌^◌, ℕ, Bool, true, List, length, Option, Some, None}
use Rattle.lsm_device.specs.declared.refusal.Refusal.{Refusal}
use Rattle.lsm_device.specs.declared.refusal.Refusal.TheVariants.{NoMemory, Io, NoSuchJob, WrongState, ForeignResult, NoSpace, Exhausted}
use Rattle.lsm_extent.specs.Area.{Area}
use Rattle.lsm_table.specs.Division.{TableBlocks}
use Rattle.lsm_merge.specs.Inputs.{MergeInput}
use Rattle.lsm_jobs.specs.Slots.{Stage, Slot, Frozen, is_frozen, is_writing, is_written, is_not_at, to_write}
use Rattle.lsm_jobs.specs.Placing.{FindNoRoom}

-- a job is frozen, with this input
abbrev pub HasInput : MergeInput → Option Slot → Type 0
HasInput input None = ⊥
HasInput input (Some slot) = (slot.stage ≡ Frozen) × (slot.input ≡ input)

-- a job is frozen, with another input
abbrev pub HasOtherInput : MergeInput → Option Slot → Type 0
HasOtherInput input None = ⊥
HasOtherInput input (Some slot) = (slot.stage ≡ Frozen) × (slot.input ≢ input)

-- there is a job, at a stage that passes a test
abbrev pub IsAtStage : (Stage → Bool) → Option Slot → Type 0
IsAtStage test None = ⊥
IsAtStage test (Some slot) = test slot.stage ≡ true

-- there is no such job, or it is not frozen
abbrev pub IsNotFrozen : Option Slot → Refusal → Type 0
IsNotFrozen held refusal = ((refusal ≡ NoSuchJob) × (held ≡ None)) ⊎ ((refusal ≡ WrongState) × (is_not_at is_frozen held ≡ true))

-- why the input of a job is not given
abbrev pub RefusesInput : Option Slot → Refusal → Type 0
RefusesInput held NoSuchJob = held ≡ None
RefusesInput held WrongState = is_not_at is_frozen held ≡ true
RefusesInput held NoMemory = IsAtStage is_frozen held
RefusesInput held other = ⊥

-- why a result is not accepted
abbrev pub RefusesResult : ℕ → MergeInput → List TableBlocks → Area → Option Slot → Refusal → Type 0
RefusesResult next_table input images area held NoSuchJob = held ≡ None
RefusesResult next_table input images area held WrongState = is_not_at is_frozen held ≡ true
RefusesResult next_table input images area held ForeignResult = HasOtherInput input held
RefusesResult next_table input images area held Exhausted = HasInput input held × (2 ^ 63 + 1 < next_table + length images)
RefusesResult next_table input images area held NoSpace = HasInput input held × (next_table + length images ≤ 2 ^ 63 + 1) × FindNoRoom area images
RefusesResult next_table input images area held NoMemory = HasInput input held × (next_table + length images ≤ 2 ^ 63 + 1)
RefusesResult next_table input images area held other = ⊥

-- there is no such job, or it is not writing
abbrev pub IsNotWriting : Option Slot → Refusal → Type 0
IsNotWriting held refusal = ((refusal ≡ NoSuchJob) × (held ≡ None)) ⊎ ((refusal ≡ WrongState) × (is_not_at is_writing held ≡ true))

-- why no block is written, or not all that come next: of a fault only where some are left
abbrev pub RefusesWrite : Option Slot → Refusal → Type 0
RefusesWrite held NoSuchJob = held ≡ None
RefusesWrite held WrongState = is_not_at is_writing held ≡ true
RefusesWrite held Io = 0 < to_write held
RefusesWrite held other = ⊥

-- there is no such job, or it is not writing or has blocks left
abbrev pub IsNotWritten : Option Slot → Refusal → Type 0
IsNotWritten held refusal = ((refusal ≡ NoSuchJob) × (held ≡ None)) ⊎ ((refusal ≡ WrongState) × (is_not_at is_written held ≡ true))
