-- Which job is given, and when a piece of work is refused.
use Rattle.std.specs.Prelude.{ℕ, ◌+◌, ◌-◌, ◌==◌, nat_le, nat_lt, ◌&&◌, Bool, true, false, not, is_some, is_none, List, [], ◌∷◌, length, Option, Some, None, if◌then◌else◌}
use Rattle.lsm_codec.specs.Versions.{Version, is_same_key}
use Rattle.lsm_device.specs.declared.refusal.Refusal.{Refusal}
use Rattle.lsm_device.specs.declared.refusal.Refusal.TheVariants.{Stopped, NoSuchJob, WrongState, ForeignResult, NoSpace, TooManyRuns, TooManyTables, Exhausted}
use Rattle.lsm_root.specs.CrashState.{last_number}
use Rattle.lsm_merge.specs.Inputs.{MergeInput}
use Rattle.lsm_merge.specs.Results.{MergeResult}
use Rattle.lsm_levels.specs.Tables.{Table}
use Rattle.lsm_levels.specs.Levels.{all_tables, places}
use Rattle.lsm_levels.specs.Pick.{Job, inputs, is_flush}
use Rattle.lsm_levels.specs.declared.choosing.Choice.{Choice}
use Rattle.lsm_jobs.specs.Slots.{Slot, slot_of, is_reading, is_frozen, is_writing, is_written, is_not_at, outputs_at}
use Rattle.lsm_jobs.specs.Taking.{given_job}
use Rattle.lsm_codec.specs.Guards.{is_same_value}
use Rattle.lsm_machine.specs.Refusals.{first_refusal}
use Rattle.lsm_machine.specs.Placings.{place_all}
use Rattle.lsm_machine.specs.State.{are_waiting}
use Rattle.lsm_machine.specs.Work.{WorkView, Work, Take, Read, Ask, Accept, Write, Install, Drop}
use Rattle.lsm_machine.specs.Machine.{Machine}

-- the job that a taking gives: the one that is chosen, or where none is the one that comes next; none where no slot is free
abbrev pub job_given : Machine → Option Choice → Option Job
job_given m asked = given_job (are_waiting m.state) asked m.work.levels m.work.jobs.slots

-- the slot of the job of a number
abbrev pub held : Machine → ℕ → Option Slot
held m job = slot_of job m.work.jobs.slots

-- what a slot has, or this where there is none
abbrev pub of_slot : {X : Type 0} → X → (Slot → X) → Option Slot → X
of_slot none f None = none
of_slot none f (Some slot) = f slot

-- what a result has, or this where there is none
abbrev pub of_result : {X : Type 0} → X → (MergeResult → X) → Option MergeResult → X
of_result none f None = none
of_result none f (Some result) = f result

-- ---- whether a result is that of a job's own input

-- whether two lists are the same, element by element
abbrev pub is_same_list : {X : Type 0} → (X → X → Bool) → List X → List X → Bool
is_same_list same [] [] = true
is_same_list same (x ∷ xs) (y ∷ ys) = same x y && is_same_list same xs ys
is_same_list same [] (y ∷ ys) = false
is_same_list same (x ∷ xs) [] = false

abbrev pub is_same_version : Version → Version → Bool
is_same_version v w = is_same_key v.key w.key && ((v.number == w.number) && is_same_value v.value w.value)

-- whether two merges are given the same: runs, cuts and bottom flag
abbrev pub is_same_input : MergeInput → MergeInput → Bool
is_same_input a b = is_same_list (is_same_list is_same_version) a.runs b.runs && (is_same_list (λ m n. m == n) a.cuts b.cuts && (if a.bottom then b.bottom else not b.bottom))

-- whether there is a result, and of the slot's own input
abbrev pub is_own : Slot → Option MergeResult → Bool
is_own slot result = of_result false (λ made. is_same_input slot.input made.input) result

-- ---- what an accept and an install need

-- how many tables a result has
abbrev pub tables_made : Option MergeResult → ℕ
tables_made result = of_result 0 (λ made. length made.images) result

-- where the tables of a result would be placed, if they all find room
abbrev pub placing : WorkView → Option MergeResult → Option (List Table)
placing w result = of_result None (λ made. place_all w.next_table w.area made.images) result

-- the tables that stand in the levels
abbrev pub live_tables : WorkView → List Table
live_tables w = all_tables (places w.levels)

-- where an install would put more than 12 runs into level 0, or have more than 1,024 tables live
abbrev pub has_too_many_runs : WorkView → Slot → Bool
has_too_many_runs w slot = is_flush slot.job && nat_le 12 (length w.levels.runs)

abbrev pub has_too_many_tables : WorkView → Slot → Bool
has_too_many_tables w slot = nat_lt 1024 ((length (live_tables w) + length (outputs_at slot.stage)) - length (inputs slot.job))

-- the refusals of a running store in their order, each with its condition
abbrev pub work_refusals : Machine → Work → List (Bool × Refusal)
work_refusals m (Take asked) = (is_some (job_given m asked) && nat_lt last_number m.work.jobs.next, Exhausted) ∷ []
work_refusals m (Read job) = (is_none (held m job), NoSuchJob) ∷ (is_not_at is_reading (held m job), WrongState) ∷ []
work_refusals m (Ask job) = (is_none (held m job), NoSuchJob) ∷ (is_not_at is_frozen (held m job), WrongState) ∷ []
work_refusals m (Accept job result) = (is_none (held m job), NoSuchJob) ∷ (is_not_at is_frozen (held m job), WrongState)
    ∷ (of_slot false (λ slot. not (is_own slot result)) (held m job), ForeignResult)
    ∷ (nat_lt (last_number + 1) (m.work.next_table + tables_made result), Exhausted)
    ∷ (is_none (placing m.work result), NoSpace) ∷ []
work_refusals m (Write job) = (is_none (held m job), NoSuchJob) ∷ (is_not_at is_writing (held m job), WrongState) ∷ []
work_refusals m (Install job) = (is_none (held m job), NoSuchJob) ∷ (is_not_at is_written (held m job), WrongState)
    ∷ (of_slot false (has_too_many_runs m.work) (held m job), TooManyRuns) ∷ (of_slot false (has_too_many_tables m.work) (held m job), TooManyTables)
    ∷ (m.state.generation == last_number, Exhausted) ∷ []
work_refusals m (Drop job) = (is_none (held m job), NoSuchJob) ∷ []

-- the refusal that decides where the store runs
abbrev pub running_refusal : Machine → Work → Option Refusal
running_refusal m work = first_refusal (work_refusals m work)

-- the refusal that decides, if the work is refused; a stopped store refuses each
abbrev pub work_refusal : Machine → Work → Option Refusal
work_refusal m work = if is_some m.state.stopped then Some Stopped else running_refusal m work
