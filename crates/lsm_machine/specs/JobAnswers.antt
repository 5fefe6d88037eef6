-- That what the slots of jobs answer is what the work says.
use Rattle.std.specs.Prelude.{◌≡◌, ◌⊎◌, ℕ, ◌+◌, ◌≤◌, List, [], ◌∷◌, length, Some, None}
use Rattle.std.specs.List.{AllByRecursion}
use Rattle.lsm_device.specs.declared.refusal.Refusal.{Refusal}
use Rattle.lsm_device.specs.declared.refusal.Refusal.TheVariants.{NoMemory, Io, NoSpace}
use Rattle.lsm_device.specs.Medium.{Medium}
use Rattle.lsm_extent.specs.Area.{Area}
use Rattle.lsm_merge.specs.Divisions.{AreTables}
use Rattle.lsm_merge.specs.Inputs.{MergeInput, IsCuts, kept_of}
use Rattle.lsm_merge.specs.Results.{MergeResult}
use Rattle.lsm_table.specs.Division.{TableBlocks}
use Rattle.lsm_levels.specs.Tables.{Table, versions_of}
use Rattle.lsm_jobs.specs.Slots.{JobSlots}
use Rattle.lsm_jobs.specs.Reading.{JobReadsOn}
use Rattle.lsm_jobs.specs.Refusing.{HasInput, IsNotWritten, RefusesInput, RefusesResult, RefusesWrite}
use Rattle.lsm_jobs.specs.Placing.{ArePlaced, FindNoRoom, IsAccepted}
use Rattle.lsm_jobs.specs.Writing.{JobWritesOn}
use Rattle.lsm_machine.specs.State.{State}
use Rattle.lsm_machine.specs.Calls.{Number, Handed}
use Rattle.lsm_machine.specs.Placings.{place_all}
use Rattle.lsm_machine.specs.Work.{Work, Read, Ask, Accept, Write, Install, counts_of, cuts_of}
use Rattle.lsm_machine.specs.WorkRefusals.{held, running_refusal}
use Rattle.lsm_machine.specs.WorkEffects.{work_answer, work_after}
use Rattle.lsm_machine.specs.Machine.{Machine}

-- Images are placed as the function says: exactly where none of them finds no room.
pub record PlacingLaw : Type 0 where
  pub placed : (number : ℕ) (area : Area) (images : List TableBlocks) (tables : List Table) → ArePlaced number area images tables → place_all number area images ≡ Some tables
  pub none : (number : ℕ) (area : Area) (images : List TableBlocks) → FindNoRoom area images → place_all number area images ≡ None

-- The tables that are placed of a result have just the versions that its merge keeps, wherever it is divided.
abbrev pub PlacedVersionsLaw : Type 0
PlacedVersionsLaw = (number : ℕ) (area : Area) (result : MergeResult) (tables : List Table) → AreTables (kept_of result.input) result.images → place_all number area result.images ≡ Some tables → versions_of tables ≡ kept_of result.input

-- a piece of work is refused so: by the refusal that decides, or where none does by another
abbrev pub IsRefusedOr : Refusal → Machine → Work → Refusal → Type 0
IsRefusedOr other m work e = (running_refusal m work ≡ Some e) ⊎ ((e ≡ other) × (running_refusal m work ≡ None))

-- Slots that lend the input of a job answer what the work says, or for want of memory.
pub record LendsInput (m : Machine) (job : ℕ) : Type 0 where
  pub unrefused : (input : MergeInput) → HasInput input (held m job) → running_refusal m (Ask job) ≡ None
  pub answer : (input : MergeInput) → HasInput input (held m job) → work_answer m (Ask job) ≡ Handed input
  pub refused : (e : Refusal) → RefusesInput (held m job) e → IsRefusedOr NoMemory m (Ask job) e

-- Slots that accept a result leave the work as it says. They refuse it as the work does, or for want of memory, which may come
-- in the place of NoSpace.
pub record AcceptsResult (m : Machine) (job : ℕ) (result : MergeResult) : Type 0 where
  pub unrefused : (then : Area) (jobs : JobSlots) → IsAccepted job m.work.next_table result.input result.images m.work.area then m.work.jobs jobs → running_refusal m (Accept job (Some result)) ≡ None
  pub after : (then : Area) (jobs : JobSlots) → IsAccepted job m.work.next_table result.input result.images m.work.area then m.work.jobs jobs
      → record m.work { jobs = jobs; next_table = m.work.next_table + length result.images; area = then } ≡ work_after m (Accept job (Some result))
  pub refused : (e : Refusal) → RefusesResult m.work.next_table result.input result.images m.work.area (held m job) e
      → IsRefusedOr NoMemory m (Accept job (Some result)) e ⊎ ((e ≡ NoMemory) × (running_refusal m (Accept job (Some result)) ≡ Some NoSpace))

-- Slots that write blocks of a job leave the work as it says, with its answer, and refuse it as the work does, or for a fault.
pub record WritesSome (m : Machine) (job : ℕ) : Type 0 where
  pub unrefused : (left : ℕ) (jobs : JobSlots) → JobWritesOn job left m.work.jobs jobs → running_refusal m (Write job) ≡ None
  pub answer : (left : ℕ) (jobs : JobSlots) → JobWritesOn job left m.work.jobs jobs → work_answer m (Write job) ≡ Number left
  pub after : (left : ℕ) (jobs : JobSlots) → JobWritesOn job left m.work.jobs jobs → record m.work { jobs = jobs } ≡ work_after m (Write job)
  pub refused : (e : Refusal) → RefusesWrite (held m job) e → IsRefusedOr Io m (Write job) e

-- Slots that read data blocks of a job answer what the work says. They leave the work as it says where the job's input stays
-- what it was to be.
pub record ReadsSome (m : Machine) (job : ℕ) : Type 0 where
  pub unrefused : (area left : ℕ) (medium : Medium) (jobs : JobSlots) → JobReadsOn area medium job left m.work.jobs jobs → running_refusal m (Read job) ≡ None
  pub answer : (area left : ℕ) (medium : Medium) (jobs : JobSlots) → JobReadsOn area medium job left m.work.jobs jobs → work_answer m (Read job) ≡ Number left
  pub after : (area left : ℕ) (medium : Medium) (jobs : JobSlots) → (reads : JobReadsOn area medium job left m.work.jobs jobs) → reads.now.input ≡ reads.slot.input
      → record m.work { jobs = jobs } ≡ work_after m (Read job)

-- Slots say that a job is not written exactly as an install is refused then.
pub record EndsWritten (m : Machine) (job : ℕ) : Type 0 where
  pub refused : (e : Refusal) → IsNotWritten (held m job) e → running_refusal m (Install job) ≡ Some e

pub record JobsLaw : Type 0 where
  pub ask : (m : Machine) (job : ℕ) → LendsInput m job
  pub accept : (m : Machine) (job : ℕ) (result : MergeResult) → AcceptsResult m job result
  pub write : (m : Machine) (job : ℕ) → WritesSome m job
  pub read : (m : Machine) (job : ℕ) → ReadsSome m job
  pub install : (m : Machine) (job : ℕ) → EndsWritten m job

-- counts, none below the one before it
abbrev pub AreRising : List ℕ → Type 0
AreRising [] = Unit {0}
AreRising (n ∷ rest) = AllByRecursion (λ m. n ≤ m) rest × AreRising rest

-- The cuts of a job are 1 to 33, ascending, where at most 32 snapshots live, taken at counts that rise up to the present one.
abbrev pub CutsLaw : Type 0
CutsLaw = (s : State) → length s.snapshots ≤ 32 → AreRising (counts_of s) → IsCuts (cuts_of s)
