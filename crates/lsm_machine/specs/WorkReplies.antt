-- What a store may reply to a piece of work, and the machine after it.
use Rattle.std.specs.Prelude.{◌≡◌, ◌≢◌, ◌⊎◌, is_some, List, [], ◌∷◌, ◌++◌, Option, Some, None, IsNone, IsTrue, if◌then◌else◌}
use Rattle.lsm_device.specs.declared.refusal.Refusal.{Refusal}
use Rattle.lsm_device.specs.declared.refusal.Refusal.TheVariants.{NoMemory, Io, BadTable, NoSpace}
use Rattle.lsm_levels.specs.Held.{AreOutputs}
use Rattle.lsm_jobs.specs.Slots.{Slot, outputs_at}
use Rattle.lsm_root.specs.CrashState.{CrashState}
use Rattle.lsm_machine.specs.Calls.{Reply, Refused}
use Rattle.lsm_machine.specs.Effects.{Use}
use Rattle.lsm_machine.specs.Effects.{Untouched, Reads, Changes}
use Rattle.lsm_machine.specs.Crash.{may_leave, last_crash_state}
use Rattle.lsm_machine.specs.Machine.{Machine}
use Rattle.lsm_machine.specs.Work.{Work, Take, Read, Ask, Accept, Write, Install, Drop}
use Rattle.lsm_machine.specs.WorkRefusals.{job_given, held, work_refusal}
use Rattle.lsm_machine.specs.WorkEffects.{work_answer, work_after, state_after, work_use}

-- ---- replies

abbrev pub work_reply_by : Machine → Work → Option Refusal → Reply
work_reply_by m piece (Some e) = Refused e
work_reply_by m piece None = work_answer m piece

-- what the machine decides: a refusal or an answer
abbrev pub work_decided : Machine → Work → Reply
work_decided m piece = work_reply_by m piece (work_refusal m piece)

-- Where memory may be wanting: where nothing refuses the piece, and it takes some. A taking takes some for a job alone; and of an
-- accept it may be refused before it is known that there is no room.
abbrev pub MayWant : Machine → Work → Type 0
MayWant m (Take asked) = IsNone (work_refusal m (Take asked)) × IsTrue (is_some (job_given m asked))
MayWant m (Read job) = IsNone (work_refusal m (Read job))
MayWant m (Ask job) = IsNone (work_refusal m (Ask job))
MayWant m (Accept job result) = (work_refusal m (Accept job result) ≡ None) ⊎ (work_refusal m (Accept job result) ≡ Some NoSpace)
MayWant m (Write job) = ⊥
MayWant m (Install job) = IsNone (work_refusal m (Install job))
MayWant m (Drop job) = ⊥

-- A machine may reply so to a piece of work. Besides what it decides there are want of memory and a fault of the device, each
-- only where nothing refuses the piece.
abbrev pub WorkAllows : Machine → Work → Reply → Type 0
WorkAllows m piece (Refused NoMemory) = MayWant m piece
WorkAllows m piece (Refused Io) = IsNone (work_refusal m piece) × (work_use m piece ≢ Untouched)
WorkAllows m piece reply = reply ≡ work_decided m piece

-- the outputs of a slot's job don't lie within what the job takes in
abbrev pub IsUnfit : Option Slot → Type 0
IsUnfit None = ⊥
IsUnfit (Some slot) = AreOutputs slot.job (outputs_at slot.stage) → ⊥

-- Where a device that doesn't back the state may make a piece of work tell that there is no table: as it reads one, or as it
-- installs outputs of entries that were not those of the job's tables.
abbrev pub MayFindNoTable : Machine → Work → Type 0
MayFindNoTable m (Take asked) = ⊥
MayFindNoTable m (Read job) = IsNone (work_refusal m (Read job))
MayFindNoTable m (Ask job) = ⊥
MayFindNoTable m (Accept job result) = ⊥
MayFindNoTable m (Write job) = ⊥
MayFindNoTable m (Install job) = IsNone (work_refusal m (Install job)) × IsUnfit (held m job)
MayFindNoTable m (Drop job) = ⊥

-- What a store's memory decides of it, whatever its device holds: all of that, but that what is read may be no table.
abbrev pub WorkAdmits : Machine → Work → Reply → Type 0
WorkAdmits m piece (Refused BadTable) = MayFindNoTable m piece
WorkAdmits m piece reply = WorkAllows m piece reply

-- ---- the machine afterwards

-- what a crash inside a piece of work may leave besides: an install may have had its whole effect
abbrev pub work_left_besides : Machine → Work → List CrashState
work_left_besides m (Take asked) = []
work_left_besides m (Read job) = []
work_left_besides m (Ask job) = []
work_left_besides m (Accept job result) = []
work_left_besides m (Write job) = []
work_left_besides m (Install job) = last_crash_state (state_after m (Install job)) ∷ []
work_left_besides m (Drop job) = []

-- what a crash inside a piece of work may leave
abbrev pub work_left_inside : Machine → Work → List CrashState
work_left_inside m piece = may_leave m.state ++ (if is_some (work_refusal m piece) then [] else work_left_besides m piece)

-- after a fault of the device: one of a write or a sync stops the store inside the piece
abbrev pub after_work_fault : Machine → Work → Use → Machine
after_work_fault m piece Untouched = m
after_work_fault m piece Reads = m
after_work_fault m piece Changes = record m { state = record m.state { stopped = Some (work_left_besides m piece) } }

-- the machine after a reply
abbrev pub next_worked : Machine → Work → Reply → Machine
next_worked m piece (Refused Io) = after_work_fault m piece (work_use m piece)
next_worked m piece (Refused other) = m
next_worked m piece reply = record { state = state_after m piece; work = work_after m piece }

-- the machine after what it decides
abbrev pub worked_by : Machine → Work → Option Refusal → Machine
worked_by m piece (Some e) = m
worked_by m piece None = record { state = state_after m piece; work = work_after m piece }
