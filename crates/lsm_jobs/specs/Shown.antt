-- What a job in a slot shows.
use Rattle.std.specs.Prelude.{◌≡◌, ℕ, length, Option, Some, None}
use Rattle.std.specs.Arc.{arc_value}
use Rattle.lsm_merge.specs.Inputs.{MergeInput}
use Rattle.lsm_levels.specs.Pick.{Job, Flush, inputs}
use Rattle.lsm_jobs.specs.Slots.{Slot, Stage, Reading, Frozen, Writing}
use Rattle.lsm_jobs.specs.Numbers.{Inputs, merge_of}
use Rattle.lsm_jobs.specs.Gathering.{ascending_runs, input_ahead, blocks_left}
use Rattle.lsm_jobs.specs.declared.held.Work.{Work}
use Rattle.lsm_jobs.specs.declared.held.Work.TheVariants as work

-- a flush, or the merge of these tables
abbrev pub job_of : Option Inputs → Job
job_of None = Flush
job_of (Some tables) = merge_of tables

-- the input of a job
abbrev pub input_shown : {A : Type 0} → Job → Work A → MergeInput
input_shown job (work.Reading gathering) = input_ahead (inputs job) gathering
input_shown job (work.Frozen input) = arc_value input
input_shown job (work.Writing outputs) = outputs.input

-- how far a job is
abbrev pub stage_shown : {A : Type 0} → Job → Work A → Stage
stage_shown job (work.Reading gathering) = Reading (blocks_left (inputs job) gathering)
stage_shown job (work.Frozen input) = Frozen
stage_shown job (work.Writing outputs) = Writing outputs.tables outputs.left

-- the slot of a job of this number
abbrev pub slot_shown : {A : Type 0} → ℕ → Job → Work A → Slot
slot_shown number job work = record { number = number; job = job; input = input_shown job work; stage = stage_shown job work }

-- a job that is being read has a list for each run of its tables
abbrev pub HasRuns : {A : Type 0} → Job → Work A → Type 0
HasRuns job (work.Reading gathering) = length gathering.runs ≡ length (ascending_runs (inputs job))
HasRuns job (work.Frozen input) = Unit {0}
HasRuns job (work.Writing outputs) = Unit {0}
