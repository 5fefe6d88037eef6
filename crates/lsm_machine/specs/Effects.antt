-- What a call answers that nothing refuses, and the state after it.
use Rattle.std.specs.Prelude.{ℕ, ◌+◌, ◌==◌, nat_le, Bool, true, false, not, is_some, is_none, List, [], ◌∷◌, ◌++◌, filter, Option, Some, None, option_map, if◌then◌else◌}
use Rattle.std.specs.FinMap as finite
use Rattle.lsm_codec.specs.Map.{Operation}
use Rattle.lsm_codec.specs.BatchText.{sectors_of}
use Rattle.lsm_device.specs.declared.refusal.Refusal.{Refusal}
use Rattle.lsm_machine.specs.RecoveryPoints.{batch_count, present_point, with_batch, all_synced}
use Rattle.lsm_machine.specs.State.{OpenLog, LiveSnapshot, State, map_at, log_room}
use Rattle.lsm_mem.specs.Paging.{page_of}
use Rattle.lsm_machine.specs.Calls.{Call, Reply}
use Rattle.lsm_machine.specs.Calls.{Commit, CommitIf, Sync, SyncTo, Get, Scan, Snapshot, Release, Rotate, LogRoom, Number, Done, Value, Rows, Refused}
use Rattle.lsm_machine.specs.Refusals.{first_refusal, later_refusals, full_refusal}

abbrev pub answer : State → Call → Reply
answer s (Commit batch) = Number (batch_count s.points + 1)
answer s (CommitIf guards batch) = Number (batch_count s.points + 1)
answer s (Get at key) = Value (finite.get (map_at s at) key)
answer s (Scan at from to limit) = Rows (page_of (map_at s at) from to limit)
answer s Snapshot = Number s.next_snapshot
answer s LogRoom = Number (log_room s)
answer s other = Done

-- the open log with the sectors of one batch more
abbrev pub with_sectors : List Operation → OpenLog → OpenLog
with_sectors batch log = record log { used = log.used + sectors_of batch }

-- the present map under the next number
abbrev pub next_taken : State → LiveSnapshot
next_taken s = record { number = s.next_snapshot; point = present_point s.points }

-- snapshots without that of a number
abbrev pub without : ℕ → List LiveSnapshot → List LiveSnapshot
without number snapshots = filter (λ snapshot. not (snapshot.number == number)) snapshots

-- the state after a rotation: the region of the open log is closed, a new log is open after all batches, and all are synced
abbrev pub rotated : State → State
rotated s = record s {
  points = all_synced s.points;
  closed = if is_some s.open_log then 1 else 0;
  open_log = Some (record { first = batch_count s.points + 1; used = 0 });
  generation = s.generation + 1;
}

-- after an install: all batches are synced, and after a flush no closed region holds batches that are in no table
abbrev pub installed : Bool → State → State
installed flush s = record s { points = all_synced s.points; generation = s.generation + 1; closed = if flush then 0 else s.closed }

-- the state after a batch was added
abbrev pub committed : State → List Operation → State
committed s batch = record s { points = with_batch s.points batch; open_log = option_map (with_sectors batch) s.open_log }

-- the state after that answer
abbrev pub after : State → Call → State
after s (Commit batch) = committed s batch
after s (CommitIf guards batch) = committed s batch
after s Sync = record s { points = all_synced s.points }
after s (SyncTo number) = if nat_le number s.points.synced then s else record s { points = all_synced s.points }
after s Snapshot = record s { snapshots = s.snapshots ++ next_taken s ∷ []; next_snapshot = s.next_snapshot + 1 }
after s (Release number) = record s { snapshots = without number s.snapshots }
after s Rotate = rotated s
after s other = s

abbrev pub reply_by : State → Call → Option Refusal → Reply
reply_by s call (Some e) = Refused e
reply_by s call None = answer s call

-- what the state decides: a refusal or an answer
abbrev pub decided : State → Call → Reply
decided s call = reply_by s call (full_refusal s call)

abbrev pub state_by : State → Call → Option Refusal → State
state_by s call (Some e) = s
state_by s call None = after s call

-- the state after what it decides
abbrev pub completed : State → Call → State
completed s call = state_by s call (full_refusal s call)

-- whether a call takes memory, for want of which it may be refused
abbrev pub takes_memory : Call → Bool
takes_memory (Commit batch) = true
takes_memory (CommitIf guards batch) = true
takes_memory Sync = false
takes_memory (SyncTo number) = false
takes_memory (Get at key) = true
takes_memory (Scan at from to limit) = true
takes_memory Snapshot = true
takes_memory (Release number) = false
takes_memory Rotate = true
takes_memory LogRoom = false

-- whether it takes memory in this state: a look-up takes some for the copy of a value alone, and a commit under guards where all
-- of them are true
abbrev pub wants_memory : State → Call → Bool
wants_memory s (Commit batch) = true
wants_memory s (CommitIf guards batch) = is_none (first_refusal (later_refusals s (CommitIf guards batch)))
wants_memory s (Get at key) = is_some (finite.get (map_at s at) key)
wants_memory s (Scan at from to limit) = true
wants_memory s Snapshot = true
wants_memory s Rotate = true
wants_memory s other = false

-- what a call that nothing refuses may do with the device
pub data Use : Type 0 where
  -- nothing
  Untouched : Use
  -- read: after a fault nothing has changed
  Reads : Use
  -- write and sync: a fault stops the store
  Changes : Use

abbrev pub use_of : State → Call → Use
use_of s (SyncTo number) = if nat_le number s.points.synced then Untouched else Changes
use_of s (Get at key) = Reads
use_of s (Scan at from to limit) = Reads
use_of s Snapshot = Untouched
use_of s (Release number) = Untouched
use_of s LogRoom = Untouched
use_of s other = Changes

-- what it may do with the device before it changes anything: a commit reads what its guards ask
abbrev pub use_first : Call → Use
use_first (CommitIf (guard ∷ guards) batch) = Reads
use_first (Get at key) = Reads
use_first (Scan at from to limit) = Reads
use_first other = Untouched
