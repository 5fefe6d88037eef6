-- The calls of a store, and the replies.
use Rattle.std.specs.Prelude.{ℕ, List, Option, Result, Ok, Err, option_map}
use Rattle.lsm_codec.specs.Keys.{Bytes}
use Rattle.lsm_codec.specs.Map.{Operation}
use Rattle.lsm_device.specs.declared.refusal.Refusal.{Refusal}
use Rattle.lsm_device.specs.declared.refusal.Refusal.TheVariants.{Io}
use Rattle.lsm_codec.specs.Guards.{Condition}
use Rattle.lsm_machine.specs.declared.asked.At.{At}
use Rattle.lsm_jobs.specs.declared.taking.TakenJob.{TakenJob}
use Rattle.lsm_mem.specs.Paging.{Page}
use Rattle.lsm_merge.specs.Inputs.{MergeInput}

pub data Call : Type 0 where
  -- adds a batch
  Commit : List Operation → Call
  -- adds a batch where the present map meets each of these conditions
  CommitIf : List Condition → List Operation → Call
  -- makes all batches outlast a crash
  Sync : Call
  -- makes the batches up to this number outlast a crash
  SyncTo : ℕ → Call
  -- asks for the value of a key
  Get : At → Bytes → Call
  -- asks for the first n pairs from a key on, up to another key where one is given
  Scan : At → Bytes → Option Bytes → ℕ → Call
  -- takes a snapshot of the present map
  Snapshot : Call
  -- forgets the snapshot of a number
  Release : ℕ → Call
  -- closes the open log, opens a new one after all batches, and makes them outlast a crash
  Rotate : Call
  -- asks for the free sectors of the open log
  LogRoom : Call

-- what is replied to a call, or to a piece of work
pub data Reply : Type 0 where
  -- of a batch, of a snapshot, or of sectors or blocks
  Number : ℕ → Reply
  Done : Reply
  -- of a key, none where it has none
  Value : Option Bytes → Reply
  -- of a range
  Rows : Page → Reply
  -- of a job that was taken, its number and the level above that of its outputs, none of a flush; none where there was none
  Given : Option (ℕ × Option ℕ) → Reply
  -- of a job, what its merge is given
  Handed : MergeInput → Reply
  Refused : Refusal → Reply
  -- a read of a commit's guards faulted: nothing is changed. Whoever asked is told Io, as of a write that faulted.
  Unread : Reply

-- a result as a reply
abbrev pub reply_of : {T : Type 0} → (T → Reply) → Result T Refusal → Reply
reply_of f (Ok x) = f x
reply_of f (Err e) = Refused e

-- what is told of a reply
abbrev pub as_told : Reply → Reply
as_told Unread = Refused Io
as_told reply = reply

-- what is told of a job that was taken, if there was one
abbrev pub taken_reply : Option TakenJob → Reply
taken_reply taken = Given (option_map (λ t. (t.number, t.level)) taken)
