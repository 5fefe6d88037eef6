-- What a store may reply to a call, and to steps one after another.
use Rattle.std.specs.Prelude.{◌≡◌, ◌≢◌, ◌<◌, ℕ, ◌-◌, Bool, true, false, List, [], ◌∷◌, ◌++◌, length, Option, Some, None, IsNone, IsTrue}
use Rattle.lsm_device.specs.declared.refusal.Refusal.TheVariants.{NoMemory, Io, BadTable, GuardFailed}
use Rattle.lsm_device.specs.declared.refusal.Refusal.{Refusal}
use Rattle.lsm_root.specs.CrashState.{CrashState}
use Rattle.lsm_merge.specs.Inputs.{MergeInput}
use Rattle.lsm_jobs.specs.Slots.{Slot, left_at}
use Rattle.lsm_jobs.specs.Reading.{stage_with}
use Rattle.lsm_codec.specs.Guards.{Condition}
use Rattle.lsm_machine.specs.State.{State}
use Rattle.lsm_machine.specs.Calls.{Call, Reply}
use Rattle.lsm_machine.specs.Calls.{Commit, CommitIf, Sync, SyncTo, Get, Scan, Snapshot, Release, Rotate, LogRoom, Number, Value, Rows, Refused, Unread}
use Rattle.lsm_machine.specs.Refusals.{refusal, full_refusal}
use Rattle.lsm_machine.specs.Effects.{reply_by, decided, completed, after, takes_memory, wants_memory, Use, use_of, use_first}
use Rattle.lsm_machine.specs.Effects.{Untouched, Reads, Changes}
use Rattle.lsm_machine.specs.Crash.{may_leave, left_besides, left_inside}
use Rattle.lsm_machine.specs.Machine.{Machine, Step, Called, Worked}
use Rattle.lsm_machine.specs.Work.{WorkView, Read}
use Rattle.lsm_machine.specs.WorkRefusals.{held, work_refusal}
use Rattle.lsm_machine.specs.WorkEffects.{with_slot_of, work_called, work_by}
use Rattle.lsm_machine.specs.WorkReplies.{WorkAllows, WorkAdmits, work_decided, work_left_inside, next_worked, worked_by}

-- ---- one call

-- A store in this state may reply so. Besides what the state decides there are want of memory and a fault of the device, each only
-- where the state doesn't refuse the call, and the call takes memory or uses the device. A read of guards may fault though a guard
-- is false; memory may not be wanting then, nor may a write fault.
abbrev pub Allows : State → Call → Reply → Type 0
Allows s call (Refused NoMemory) = IsNone (refusal s call) × IsTrue (wants_memory s call)
Allows s call (Refused Io) = IsNone (full_refusal s call) × (use_of s call ≢ Untouched)
Allows s (CommitIf (guard ∷ guards) batch) Unread = IsNone (refusal s (CommitIf (guard ∷ guards) batch))
Allows s call reply = reply ≡ decided s call

-- whether a value answers the call
abbrev pub asks_value : Call → Bool
asks_value (Get at key) = true
asks_value (Commit batch) = false
asks_value (CommitIf guards batch) = false
asks_value Sync = false
asks_value (SyncTo number) = false
asks_value (Scan at from to limit) = false
asks_value Snapshot = false
asks_value (Release number) = false
asks_value Rotate = false
asks_value LogRoom = false

-- whether a page does
abbrev pub asks_page : Call → Bool
asks_page (Scan at from to limit) = true
asks_page (Commit batch) = false
asks_page (CommitIf guards batch) = false
asks_page Sync = false
asks_page (SyncTo number) = false
asks_page (Get at key) = false
asks_page Snapshot = false
asks_page (Release number) = false
asks_page Rotate = false
asks_page LogRoom = false

-- the guards of a call
abbrev pub guards_of : Call → List Condition
guards_of (CommitIf guards batch) = guards
guards_of other = []

-- a read may fault, or find no table, before the call changes anything
abbrev pub ReadsFirst : State → Call → Type 0
ReadsFirst s call = IsNone (refusal s call) × (use_first call ≡ Reads)

-- What a store's memory decides of a reply, whatever its device holds: all that the state allows, but for the bytes of a
-- value and of a page, which guards are true, and that what the device holds may be no table.
abbrev pub Admits : State → Call → Reply → Type 0
Admits s call (Refused NoMemory) = IsNone (refusal s call) × IsTrue (takes_memory call)
Admits s call (Refused Io) = IsNone (refusal s call) × (use_of s call ≢ Untouched)
Admits s call (Refused BadTable) = ReadsFirst s call
Admits s call (Refused (GuardFailed place)) = IsNone (refusal s call) × (place < length (guards_of call))
Admits s call Unread = ReadsFirst s call × (use_of s call ≡ Changes)
Admits s call (Value value) = IsNone (refusal s call) × IsTrue (asks_value call)
Admits s call (Rows page) = IsNone (refusal s call) × IsTrue (asks_page call)
Admits s call reply = reply ≡ reply_by s call (refusal s call)

-- stopped inside a call
abbrev pub stopped_in : State → Call → State
stopped_in s call = record s { stopped = Some (left_besides s call) }

-- after a fault of the device
abbrev pub after_fault : State → Call → Use → State
after_fault s call Changes = stopped_in s call
after_fault s call other = s

-- the state after a reply
abbrev pub next : State → Call → Reply → State
next s call (Refused Io) = after_fault s call (use_of s call)
next s call (Refused other) = s
next s call Unread = s
next s call reply = after s call

-- ---- one step

-- a machine may reply so
abbrev pub AllowsStep : Machine → Step → Reply → Type 0
AllowsStep m (Called call) reply = Allows m.state call reply
AllowsStep m (Worked piece) reply = WorkAllows m piece reply

-- what memory decides of a reply
abbrev pub AdmitsStep : Machine → Step → Reply → Type 0
AdmitsStep m (Called call) reply = Admits m.state call reply
AdmitsStep m (Worked piece) reply = WorkAdmits m piece reply

-- whether a step asks guards
abbrev pub asks_guards : Step → Bool
asks_guards (Called (CommitIf (guard ∷ guards) batch)) = true
asks_guards other = false

-- the machine after a reply
abbrev pub next_machine : Machine → Step → Reply → Machine
next_machine m (Called call) reply = record { state = next m.state call reply; work = work_by m call reply }
next_machine m (Worked piece) reply = next_worked m piece reply

-- what a crash inside a step may leave
abbrev pub left_in_step : Machine → Step → List CrashState
left_in_step m (Called call) = left_inside m.state call
left_in_step m (Worked piece) = work_left_inside m piece

-- the work after what the state decides of a call
abbrev pub work_completed : Machine → Call → Option Refusal → WorkView
work_completed m call (Some e) = m.work
work_completed m call None = work_called m call

-- the reply that the machine decides, and the machine after it
abbrev pub decided_step : Machine → Step → Reply
decided_step m (Called call) = decided m.state call
decided_step m (Worked piece) = work_decided m piece

abbrev pub completed_step : Machine → Step → Machine
completed_step m (Called call) = record { state = completed m.state call; work = work_completed m call (full_refusal m.state call) }
completed_step m (Worked piece) = worked_by m piece (work_refusal m piece)

-- ---- steps one after another

-- a machine may give these replies to these steps, one after another
abbrev pub Run : Machine → List Step → List Reply → Type 0
Run m [] [] = Unit {0}
Run m (step ∷ steps) (reply ∷ replies) = AllowsStep m step reply × Run (next_machine m step reply) steps replies
Run m [] (reply ∷ replies) = ⊥
Run m (step ∷ steps) [] = ⊥

-- the machine after them
abbrev pub last_machine : Machine → List Step → List Reply → Machine
last_machine m (step ∷ steps) (reply ∷ replies) = last_machine (next_machine m step reply) steps replies
last_machine m steps replies = m

-- what a crash may leave at any moment of them
abbrev pub left_in_run : Machine → List Step → List Reply → List CrashState
left_in_run m (step ∷ steps) (reply ∷ replies) = left_in_step m step ++ left_in_run (next_machine m step reply) steps replies
left_in_run m steps replies = may_leave m.state

-- the replies where memory is ample and no device call faults
abbrev pub ample_replies : Machine → List Step → List Reply
ample_replies m [] = []
ample_replies m (step ∷ steps) = decided_step m step ∷ ample_replies (completed_step m step) steps

-- and the machine after them
abbrev pub ample_machine : Machine → List Step → Machine
ample_machine m [] = m
ample_machine m (step ∷ steps) = ample_machine (completed_step m step) steps

-- ---- what memory decides of them, whatever the device holds

-- A step of reading goes on with what is there: of the work it changes the slot of its job alone, which has eight blocks fewer
-- left to read, or none, and is given what was read.
pub record HasReadOn (m : Machine) (job : ℕ) (then : WorkView) : Type 0 where
  pub slot : Slot
  pub is : held m job ≡ Some slot
  pub input : MergeInput
  pub becomes : then ≡ with_slot_of m.work job (Some (record slot { input = input; stage = stage_with (left_at slot.stage - 8) }))

-- the work after a reply: memory tells it, but for what was read
abbrev pub WorkGoesTo : Reply → Machine → Step → WorkView → Type 0
WorkGoesTo (Number left) m (Worked (Read job)) then = HasReadOn m job then
WorkGoesTo reply m step then = then ≡ (next_machine m step reply).work

-- A machine may be so after a reply. The work of a stopped store is left open, since nothing asks it.
pub record GoesTo (m : Machine) (step : Step) (reply : Reply) (then : Machine) : Type 0 where
  pub state : then.state ≡ (next_machine m step reply).state
  pub work : IsNone then.state.stopped → WorkGoesTo reply m step then.work

-- replies to steps one after another that memory admits, and the machine after them
abbrev pub Course : Machine → List Step → List Reply → Machine → Type 0
Course m [] [] end = end ≡ m
Course m (step ∷ steps) (reply ∷ replies) end = AdmitsStep m step reply × (then : Machine) × GoesTo m step reply then × Course then steps replies end
Course m [] (reply ∷ replies) end = ⊥
Course m (step ∷ steps) [] end = ⊥
