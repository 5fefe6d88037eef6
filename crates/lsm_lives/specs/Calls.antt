-- What values ask for, and what replies tell.
use Rattle.std.specs.Prelude.{Some, None, option_map}
use Rattle.lsm_lives.specs.declared.calls.Call.{Call as GivenCall}
use Rattle.lsm_lives.specs.declared.calls.Call.TheVariants as call
use Rattle.lsm_lives.specs.declared.calls.Work.{Work as GivenWork}
use Rattle.lsm_lives.specs.declared.calls.Work.TheVariants as work
use Rattle.lsm_lives.specs.declared.calls.Step.{Step as GivenStep}
use Rattle.lsm_lives.specs.declared.calls.Step.TheVariants as step
use Rattle.lsm_lives.specs.declared.calls.Reply.{Reply as GivenReply}
use Rattle.lsm_lives.specs.declared.calls.Reply.TheVariants as reply
use Rattle.lsm_machine.specs.Calls.{Call, Reply, taken_reply}
use Rattle.lsm_machine.specs.Calls.{Commit, CommitIf, Sync, SyncTo, Get, Scan, Snapshot, Release, Rotate, LogRoom, Number, Done, Value, Rows, Refused}
use Rattle.lsm_machine.specs.Machine.{Called, Worked}
use Rattle.lsm_machine.specs.Work.{Take, Read, Write, Install, Drop}
use Rattle.lsm_lives.specs.Asked.{Asked, Told, Own, Build, AcceptBuilt, Replied, Built}

abbrev pub call_of : {A : Type 0} → GivenCall A → Call
call_of (call.Commit batch) = Commit batch
call_of (call.CommitIf guards batch) = CommitIf guards.items batch
call_of call.Sync = Sync
call_of (call.SyncTo number) = SyncTo number
call_of (call.Get at key) = Get at key.items
call_of (call.Scan at from to limit) = Scan at from.items (option_map (λ v. v.items) to) limit
call_of call.Snapshot = Snapshot
call_of (call.Release number) = Release number
call_of call.Rotate = Rotate
call_of call.Room = LogRoom

-- what a piece of work asks for; a build, and an accept of a result by its number, are not the store's own
abbrev pub asked_of_work : GivenWork → Asked
asked_of_work work.Take = Own (Worked (Take None))
asked_of_work (work.TakeOf choice) = Own (Worked (Take (Some choice)))
asked_of_work (work.Read job) = Own (Worked (Read job))
asked_of_work (work.Build job parts) = Build job parts
asked_of_work (work.Accept job result) = AcceptBuilt job result
asked_of_work (work.Write job) = Own (Worked (Write job))
asked_of_work (work.Install job) = Own (Worked (Install job))
asked_of_work (work.Drop job) = Own (Worked (Drop job))

-- what a step asks for
abbrev pub asked_of : {A : Type 0} → GivenStep A → Asked
asked_of (step.Call call) = Own (Called (call_of call))
asked_of (step.Work work) = asked_of_work work

-- a reply; of a result that was built its number alone
abbrev pub reply_of : {A : Type 0} → GivenReply A → Reply
reply_of (reply.Number n) = Number n
reply_of reply.Done = Done
reply_of (reply.Value value) = Value (option_map (λ v. v.items) value)
reply_of (reply.Page page) = Rows page
reply_of (reply.Taken job) = taken_reply job
reply_of (reply.Built result tables) = Number result
reply_of (reply.Refused e) = Refused e

-- what is told
abbrev pub told_of : {A : Type 0} → GivenReply A → Told
told_of (reply.Built result tables) = Built result tables
told_of other = Replied (reply_of other)
