-- What one piece of work of a store does.
use Rattle.std.specs.Prelude.{◌≡◌, ℕ, is_some, if◌then◌else◌}
use Rattle.lsm_device.specs.Calls.{AtMost, faults_after}
use Rattle.lsm_device.specs.History.{EachSince}
use Rattle.lsm_device.specs.Medium.{Medium}
use Rattle.lsm_device.specs.Outcomes.{Leaves}
use Rattle.lsm_device.specs.declared.refusal.Refusal.TheVariants.{NoMemory, BadTable}
use Rattle.lsm_jobs.specs.Reading.{JobReadsOn}
use Rattle.lsm_open.specs.Recovering.{StandForOne}
use Rattle.lsm_machine.specs.Calls.{Reply, Number, Refused}
use Rattle.lsm_machine.specs.Effects.{Use}
use Rattle.lsm_machine.specs.Effects.{Untouched, Reads, Changes}
use Rattle.lsm_store.specs.Backing.{StoreView, IsBacked, data_start, machine_of}
use Rattle.lsm_store.specs.Serving.{is_faultless, IsOnlyRead, Serves}
use Rattle.lsm_machine.specs.Machine.{Machine, Step, Called, Worked}
use Rattle.lsm_machine.specs.Work.{WorkView, Work, Read, Install}
use Rattle.lsm_machine.specs.WorkRefusals.{work_refusal}
use Rattle.lsm_machine.specs.WorkEffects.{work_after, work_use}
use Rattle.lsm_machine.specs.WorkReplies.{WorkAllows, WorkAdmits, work_left_inside, next_worked}

-- ---- the device

-- a piece of work that changes the device takes all its memory, and tests the outputs that it puts in, before it touches it
abbrev pub work_use_before : Use → Reply → Use
work_use_before Changes (Refused NoMemory) = Untouched
work_use_before Changes (Refused BadTable) = Untouched
work_use_before most reply = most

-- what a piece of work may do with the device that was so answered: nothing where it is refused
abbrev pub work_use_by : Machine → Work → Reply → Use
work_use_by m piece reply = if is_some (work_refusal m piece) then Untouched else work_use_before (work_use m piece) reply

-- A step of reading makes 64 reads at most, one of writing 64 writes, and an install 42 writes and two syncs.
abbrev pub IsChangedBy : Work → Medium → Medium → Type 0
IsChangedBy (Install job) old new = AtMost 0 42 2 old.calls new.calls
IsChangedBy piece old new = AtMost 0 64 0 old.calls new.calls

abbrev pub IsWorkUsed : Work → Use → Medium → Medium → Type 0
IsWorkUsed piece Untouched old new = new ≡ old
IsWorkUsed piece Reads old new = IsOnlyRead old new × AtMost 64 0 0 old.calls new.calls
IsWorkUsed piece Changes old new = IsChangedBy piece old new

-- ---- one piece of work

-- A step of reading that was answered goes on with what the device holds, and changes nothing else of the work. Where the
-- device backs the state, that is what the job was taken with.
pub record ReadsTo (old : StoreView) (job left : ℕ) (new : WorkView) : Type 0 where
  pub others : new ≡ record old.work { jobs = new.jobs }
  pub reads : JobReadsOn (data_start old) old.device job left old.work.jobs new.jobs
  pub kept : IsBacked old → new ≡ work_after (machine_of old) (Read job)

-- The work after a reply: memory tells it, but for what a step of reading has read.
abbrev pub WorksTo : Reply → StoreView → Work → WorkView → Type 0
WorksTo (Number left) old (Read job) new = ReadsTo old job left new
WorksTo reply old piece new = new ≡ (next_worked (machine_of old) piece reply).work

-- What one piece of work does.
pub record Works (old : StoreView) (piece : Work) (reply : Reply) (new : StoreView) : Type 0 where
  -- Memory decides the reply, but that what is read may be no table. Where the device backs the state it is one.
  pub admitted : WorkAdmits (machine_of old) piece reply
  pub allowed : IsBacked old → WorkAllows (machine_of old) piece reply
  -- the machine goes on by the reply
  pub state : new.state ≡ (next_worked (machine_of old) piece reply).state
  pub worked : WorksTo reply old piece new.work
  -- its blocks stay out of the cache
  pub same_cache : new.cache ≡ old.cache
  -- the device is used as the piece may use it, and it had a fault exactly where the reply tells of one
  pub used : IsWorkUsed piece (work_use_by (machine_of old) piece reply) old.device new.device
  pub fault : new.device.calls.faults ≡ faults_after (is_faultless reply) old.device.calls.faults
  pub same_size : new.device.size ≡ old.device.size
  pub same_lasting : new.device.lasting ≡ old.device.lasting
  -- at every moment within it, every crash leaves what it may
  pub crash : IsBacked old → EachSince (Leaves (StandForOne old.state.log_sectors (work_left_inside (machine_of old) piece))) old.device.history new.device.history
  -- the device backs the state again
  pub backed : IsBacked old → IsBacked new

-- ---- one step

-- What one step does: a call, or a piece of work.
abbrev pub ServesStep : StoreView → Step → Reply → StoreView → Type 0
ServesStep old (Called call) reply new = Serves old call reply new
ServesStep old (Worked piece) reply new = Works old piece reply new
