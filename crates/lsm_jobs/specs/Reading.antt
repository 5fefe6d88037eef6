-- A step of reading, as a slot shows it.
use Rattle.std.specs.Prelude.{◌≡◌, ℕ, zero, suc, ◌-◌, ◌≤◌, IsTrue, List, length, Some}
use Rattle.std.specs.List.{AllByRecursion}
use Rattle.std.specs.Arc.{arc_value}
use Rattle.lsm_device.specs.Disk.{seen}
use Rattle.lsm_device.specs.Medium.{Medium, disk}
use Rattle.lsm_merge.specs.Inputs.{MergeInput, AreRuns}
use Rattle.lsm_levels.specs.Tables.{Table}
use Rattle.lsm_levels.specs.Pick.{Job, inputs}
use Rattle.lsm_levels.specs.Stored.{LiesWithin}
use Rattle.lsm_jobs.specs.Slots.{Stage, Reading, Frozen, Slot, Slots, JobSlots, slot_of, with_held}
use Rattle.lsm_jobs.specs.Gathering.{ReadSoFar, ascending_runs, whole_input, input_ahead, blocks_left, IsNext, AllGoOn}
use Rattle.lsm_jobs.specs.declared.held.Work.{Work}
use Rattle.lsm_jobs.specs.declared.held.Work.TheVariants as work

-- The tables of a job are 1,024 at most, and their data blocks lie within the first `size` sectors.
pub record CanBeRead (size area : ℕ) (job : Job) : Type 0 where
  pub few : length (inputs job) ≤ 1024
  pub within : AllByRecursion (LiesWithin size area) (inputs job)

-- those of the job of a number, if there is one
pub record JobCanBeRead (size area job : ℕ) (slots : Slots) : Type 0 where
  pub is : (slot : Slot) → slot_of job slots ≡ Some slot → CanBeRead size area slot.job

-- A slot shows what is gathered, a list for each run of its tables.
pub record Shows (slot : Slot) (g : ReadSoFar) : Type 0 where
  pub count : length g.runs ≡ length (ascending_runs (inputs slot.job))
  pub input : slot.input ≡ input_ahead (inputs slot.job) g
  pub stage : slot.stage ≡ Reading (blocks_left (inputs slot.job) g)

-- with n blocks left the job is being read, and with none it is frozen
abbrev pub stage_with : ℕ → Stage
stage_with zero = Frozen
stage_with (suc n) = Reading (suc n)

-- its input then
abbrev pub input_with : ℕ → List Table → ReadSoFar → MergeInput
input_with zero tables g = whole_input g
input_with (suc n) tables g = input_ahead tables g

-- the slot of a job that has gathered this, with n blocks left
abbrev pub slot_with_gathered : Slot → ℕ → ReadSoFar → Slot
slot_with_gathered slot left g = record slot { input = input_with left (inputs slot.job) g; stage = stage_with left }

-- what a job is about that has gathered this, with n blocks left
abbrev pub IsWorkOf : {A : Type 0} → ℕ → ReadSoFar → Work A → Type 0
IsWorkOf zero g (work.Reading gathering) = ⊥
IsWorkOf zero g (work.Frozen input) = arc_value input ≡ whole_input g
IsWorkOf zero g (work.Writing outputs) = ⊥
IsWorkOf (suc n) g (work.Reading gathering) = gathering ≡ g
IsWorkOf (suc n) g (work.Frozen input) = ⊥
IsWorkOf (suc n) g (work.Writing outputs) = ⊥

-- A step of a job that is being read: of the data blocks that are left eight are read, or all, and each run goes on with their
-- entries; `left` blocks are left then.
pub record ReadsOn {A : Type 0} (area : ℕ) (m : Medium) (tables : List Table) (left : ℕ) (old : ReadSoFar) (new : Work A) : Type 0 where
  pub after : ReadSoFar
  pub next : IsNext tables old after
  pub eight_less : left ≡ blocks_left tables old - 8
  pub goes_on : IsTrue m.lasting.tells → AllGoOn (seen (disk m)) area tables old after
  pub becomes : IsWorkOf left after new

-- The same of a slot.
pub record SlotReadsOn (area : ℕ) (m : Medium) (left : ℕ) (old new : Slot) : Type 0 where
  pub before : ReadSoFar
  pub after : ReadSoFar
  pub shows : Shows old before
  pub next : IsNext (inputs old.job) before after
  pub eight_less : left ≡ blocks_left (inputs old.job) before - 8
  pub goes_on : IsTrue m.lasting.tells → AllGoOn (seen (disk m)) area (inputs old.job) before after
  pub becomes : new ≡ slot_with_gathered old left after

-- A slot doesn't go on: what the next eight data blocks spell is no entries that come after those of their run that were read,
-- which are in order.
pub record IsBadNext (area : ℕ) (m : Medium) (slot : Slot) : Type 0 where
  pub before : ReadSoFar
  pub shows : Shows slot before
  pub ordered : AreRuns before.runs
  pub none : (after : ReadSoFar) → AllGoOn (seen (disk m)) area (inputs slot.job) before after → ⊥

-- the same of the job of a number
pub record JobReadsOn (area : ℕ) (m : Medium) (job left : ℕ) (old new : JobSlots) : Type 0 where
  pub slot : Slot
  pub now : Slot
  pub is : slot_of job old.slots ≡ Some slot
  pub reads : SlotReadsOn area m left slot now
  pub becomes : new ≡ record { next = old.next; slots = with_held job (Some now) old.slots }
