-- What a piece of work answers that nothing refuses, and what it leaves.
use Rattle.std.specs.Prelude.{ℕ, ◌+◌, ◌-◌, ◌==◌, List, [], length, Option, Some, None, option_map, if◌then◌else◌}
use Rattle.lsm_mem.specs.EntryOrder.{with_batch}
use Rattle.lsm_levels.specs.Tables.{Table}
use Rattle.lsm_levels.specs.Pick.{inputs, is_flush, installed_levels}
use Rattle.lsm_jobs.specs.Slots.{Stage, Slot, Writing, with_held, left_at, less_left, outputs_at, outputs_of}
use Rattle.lsm_jobs.specs.Taking.{level_of, with_taken}
use Rattle.lsm_jobs.specs.Reading.{stage_with}
use Rattle.lsm_jobs.specs.Outputs.{placed_blocks}
use Rattle.lsm_jobs.specs.Placing.{all_handed_out, all_given_back}
use Rattle.lsm_machine.specs.RecoveryPoints.{batch_count}
use Rattle.lsm_machine.specs.State.{State}
use Rattle.lsm_machine.specs.Calls.{Call, Reply}
use Rattle.lsm_machine.specs.Calls.{Commit, CommitIf, Rotate, Number, Done, Given, Handed, Refused, Unread}
use Rattle.lsm_machine.specs.Effects.{Use, installed, Untouched, Reads, Changes}
use Rattle.lsm_machine.specs.Work.{WorkView, Work, Take, Read, Ask, Accept, Write, Install, Drop, cuts_of}
use Rattle.lsm_machine.specs.WorkRefusals.{job_given, held, of_slot, placing}
use Rattle.lsm_machine.specs.Machine.{Machine}

-- ---- the answer

-- how many blocks of a job are left after a piece of work that reads or writes at most eight
abbrev pub left_then : Option Slot → ℕ
left_then slot = of_slot 0 (λ one. left_at one.stage - 8) slot

abbrev pub work_answer : Machine → Work → Reply
work_answer m (Take asked) = Given (option_map (λ job. (m.work.jobs.next, level_of job)) (job_given m asked))
work_answer m (Read job) = Number (left_then (held m job))
work_answer m (Ask job) = of_slot Done (λ slot. Handed slot.input) (held m job)
work_answer m (Accept job result) = Done
work_answer m (Write job) = Number (left_then (held m job))
work_answer m (Install job) = Done
work_answer m (Drop job) = Done

-- ---- the work after it

-- with this in the slot of a job
abbrev pub with_slot_of : WorkView → ℕ → Option Slot → WorkView
with_slot_of w job now = record w { jobs = record w.jobs { slots = with_held job now w.jobs.slots } }

-- with the job of a slot at a stage
abbrev pub staged : WorkView → ℕ → Stage → Slot → WorkView
staged w job stage slot = with_slot_of w job (Some (record slot { stage = stage }))

-- With the outputs of a job placed: their extents are handed out, they are numbered, and all of their blocks are left to write.
abbrev pub with_placed : WorkView → ℕ → Option (List Table) → Slot → WorkView
with_placed w job None slot = w
with_placed w job (Some tables) slot =
    record (staged w job (Writing tables (length (placed_blocks tables))) slot) { next_table = w.next_table + length tables; area = all_handed_out tables w.area }

-- With the outputs of a job in the levels: its slot is free, and so are the blocks of what it took in.
abbrev pub with_installed : WorkView → ℕ → Slot → WorkView
with_installed w number slot = record (with_slot_of w number None) {
  sealed = if is_flush slot.job then [] else w.sealed;
  levels = installed_levels w.levels slot.job (outputs_at slot.stage);
  area = all_given_back (inputs slot.job) w.area;
}

-- Without a job: its slot is free, and so are the blocks of its outputs, where they were placed.
abbrev pub without_job : WorkView → ℕ → Option Slot → WorkView
without_job w number slot = record (with_slot_of w number None) { area = all_given_back (outputs_of slot) w.area }

abbrev pub work_after : Machine → Work → WorkView
work_after m (Take asked) = record m.work { jobs = with_taken m.work.sealed (cuts_of m.state) m.work.levels (job_given m asked) m.work.jobs }
work_after m (Read job) = of_slot m.work (λ slot. staged m.work job (stage_with (left_at slot.stage - 8)) slot) (held m job)
work_after m (Ask job) = m.work
work_after m (Accept job result) = of_slot m.work (with_placed m.work job (placing m.work result)) (held m job)
work_after m (Write job) = of_slot m.work (λ slot. staged m.work job (less_left 8 slot.stage) slot) (held m job)
work_after m (Install job) = of_slot m.work (with_installed m.work job) (held m job)
work_after m (Drop job) = without_job m.work job (held m job)

-- ---- the state after it

-- of the pieces of work an install alone changes the state
abbrev pub state_after : Machine → Work → State
state_after m (Take asked) = m.state
state_after m (Read job) = m.state
state_after m (Ask job) = m.state
state_after m (Accept job result) = m.state
state_after m (Write job) = m.state
state_after m (Install job) = of_slot m.state (λ slot. installed (is_flush slot.job) m.state) (held m job)
state_after m (Drop job) = m.state

-- ---- calls

-- the work after a rotation: what was in memory is sealed
abbrev pub with_sealed : WorkView → WorkView
with_sealed w = record w { memory = []; sealed = w.memory }

-- the work after a call's answer: a commit adds its versions to memory, and a rotation seals those there
abbrev pub work_called : Machine → Call → WorkView
work_called m (Commit batch) = record m.work { memory = with_batch (batch_count m.state.points + 1) batch m.work.memory }
work_called m (CommitIf guards batch) = record m.work { memory = with_batch (batch_count m.state.points + 1) batch m.work.memory }
work_called m Rotate = with_sealed m.work
work_called m other = m.work

-- and after a reply: a refusal changes nothing
abbrev pub work_by : Machine → Call → Reply → WorkView
work_by m call (Refused e) = m.work
work_by m call Unread = m.work
work_by m call reply = work_called m call

-- ---- the device

-- what is used for the blocks of a job that are left: nothing where none is
abbrev pub use_for : Use → Option Slot → Use
use_for most slot = of_slot Untouched (λ one. if left_at one.stage == 0 then Untouched else most) slot

-- what a piece of work that nothing refuses may do with the device
abbrev pub work_use : Machine → Work → Use
work_use m (Take asked) = Untouched
work_use m (Read job) = use_for Reads (held m job)
work_use m (Ask job) = Untouched
work_use m (Accept job result) = Untouched
work_use m (Write job) = use_for Changes (held m job)
work_use m (Install job) = Changes
work_use m (Drop job) = Untouched
