-- What reading comes to where a job's tables stand in the sectors of a device.
use Rattle.std.specs.Prelude.{◌≡◌, ℕ, ◌-◌, Bool, true, IsTrue, List, ◌++◌, Some}
use Rattle.std.specs.List.{AllByRecursion}
use Rattle.lsm_device.specs.Disk.{seen}
use Rattle.lsm_device.specs.Medium.{Medium, disk}
use Rattle.lsm_codec.specs.Versions.{Version}
use Rattle.lsm_merge.specs.Inputs.{AreRuns}
use Rattle.lsm_levels.specs.Tables.{Table}
use Rattle.lsm_levels.specs.Pick.{Merge, inputs}
use Rattle.lsm_levels.specs.Stored.{IsStored}
use Rattle.lsm_jobs.specs.Slots.{Slot, JobSlots, slot_of, at_stage, is_reading, left_at}
use Rattle.lsm_jobs.specs.Taking.{slot_with}
use Rattle.lsm_jobs.specs.Reading.{IsBadNext, JobReadsOn, stage_with}

-- The tables of a job stand in these sectors, and the runs of its input are in the order of entries.
pub record HasStored (sectors : List (List ℕ)) (area : ℕ) (slot : Slot) : Type 0 where
  pub tables : AllByRecursion (IsStored sectors area) (inputs slot.job)
  pub ordered : AreRuns slot.input.runs

-- So a merge of tables that stand is taken.
abbrev pub StoredTakingLaw : Type 0
StoredTakingLaw = (sectors : List (List ℕ)) (area number level : ℕ) (sealed : List Version) (cuts : List ℕ) (bottom : Bool) (upper lower : List Table) → AllByRecursion (IsStored sectors area) (upper ++ lower)
    → HasStored sectors area (slot_with number sealed cuts bottom (Merge level upper lower))

-- Of a job that is being read nothing but the stage goes on: at most eight data blocks fewer are left, and with none left it
-- is frozen. Its input stays.
pub record KeepsInput (left : ℕ) (slot : Slot) (old new : JobSlots) : Type 0 where
  pub reading : is_reading slot.stage ≡ true
  pub eight_less : left ≡ left_at slot.stage - 8
  pub staged : new ≡ record { next = old.next; slots = at_stage slot (stage_with left) old.slots }

-- Where its tables stand, a step of reading keeps the input of a job.
abbrev pub StoredReadingLaw : Type 0
StoredReadingLaw = (area job left : ℕ) (m : Medium) (old new : JobSlots) (slot : Slot) → IsTrue m.lasting.tells → slot_of job old.slots ≡ Some slot → HasStored (seen (disk m)) area slot → JobReadsOn area m job left old new
    → KeepsInput left slot old new

-- And its next data blocks are never bad.
abbrev pub NeverBadLaw : Type 0
NeverBadLaw = (area : ℕ) (m : Medium) (slot : Slot) → HasStored (seen (disk m)) area slot → IsBadNext area m slot → ⊥
