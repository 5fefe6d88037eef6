-- What writing blocks does to a device.
use Rattle.std.specs.Prelude.{◌≡◌, ℕ, ◌-◌, Bool, true, false, List, [], Option, Some, None, IsTrue}
use Rattle.lsm_device.specs.Calls.{faults_after}
use Rattle.lsm_device.specs.Disk.{Write}
use Rattle.lsm_device.specs.History.{EachSince}
use Rattle.lsm_device.specs.Medium.{Medium, disk}
use Rattle.lsm_device.specs.Runs.{grown, HasSomeOf}
use Rattle.lsm_jobs.specs.Slots.{Stage, Slot, Reading, Frozen, Writing, JobSlots, slot_of, with_held, is_writing, left_at, less_left}
use Rattle.lsm_jobs.specs.Outputs.{writes_of, next_blocks}

-- Blocks are written in order, each to its eight sectors, and nothing else: at each moment a beginning of these writes
-- pends, and where no call faulted all of them. Else the last call faulted.
pub record WritesBlocks (area : ℕ) (blocks : List Write) (whole : Bool) (old new : Medium) : Type 0 where
  pub moments : IsTrue old.lasting.tells → EachSince (HasSomeOf (disk old) (writes_of area blocks)) old.history new.history
  pub pends : IsTrue old.lasting.tells → whole ≡ true → disk new ≡ grown (writes_of area blocks) (disk old)
  pub faults : new.calls.faults ≡ faults_after whole old.calls.faults
  pub stops : whole ≡ false → new.calls.last_faulted ≡ true
  pub same_size : new.size ≡ old.size
  pub same_lasting : new.lasting ≡ old.lasting

-- the blocks that come next at a stage
abbrev pub next_at : Stage → List Write
next_at (Reading left) = []
next_at Frozen = []
next_at (Writing tables left) = next_blocks tables left

-- the blocks of a job that come next, if it has some
abbrev pub next_of : Option Slot → List Write
next_of None = []
next_of (Some slot) = next_at slot.stage

-- The next blocks of a job are written: at most eight fewer are left.
pub record JobWritesOn (job left : ℕ) (old new : JobSlots) : Type 0 where
  pub slot : Slot
  pub found : slot_of job old.slots ≡ Some slot
  pub writing : is_writing slot.stage ≡ true
  pub left_is : left ≡ left_at slot.stage - 8
  pub staged : new ≡ record { next = old.next; slots = with_held job (Some (record slot { stage = less_left 8 slot.stage })) old.slots }
