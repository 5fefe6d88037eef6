-- What a hold of the lock does in which a client takes a turn, or brings a result.
use Rattle.std.specs.Prelude.{◌≡◌, ◌⊎◌, ℕ, List, [], Option, Some, None}
use Rattle.lsm_device.specs.declared.refusal.Refusal.{Refusal}
use Rattle.lsm_levels.specs.declared.choosing.Choice.{Choice}
use Rattle.lsm_merge.specs.Results.{MergeResult}
use Rattle.lsm_store.specs.Backing.{StoreView, machine_of}
use Rattle.lsm_machine.specs.Calls.{Reply}
use Rattle.lsm_machine.specs.Calls.{Given}
use Rattle.lsm_machine.specs.Machine.{Worked}
use Rattle.lsm_machine.specs.Work.{Work, Take}
use Rattle.lsm_machine.specs.WorkReplies.{work_decided}
use Rattle.lsm_store.specs.Working.{Works}
use Rattle.lsm_lives.specs.Asked.{Told, Replied}
use Rattle.lsm_lives.specs.Replaying.{Replays}
use Rattle.lsm_trail.specs.History.{Event, steps_of, replies_of}
use Rattle.lsm_trail.specs.Knowledge.{SessionId, Known}
use Rattle.lsm_shared.specs.Due.{MayMerge}
use Rattle.lsm_shared.specs.Sessions.{SessionView, Enters, EntersStep, IsLost}
use Rattle.lsm_shared.specs.Turns.{Gives, MayChoose, IsTurn, DeniesWork, StopsBefore, IsBrought, IsLeftOfBringing}
use Rattle.lsm_shared.specs.declared.turn.Turn.{Turn}
use Rattle.lsm_shared.specs.declared.turn.Turn.TheVariants as turn

-- The store served the steps of these entries, one after another, with their replies: so at every moment of them every crash leaves
-- what it may.
abbrev pub AreServedBy : StoreView → List Event → StoreView → Type 0
AreServedBy old entries new = Replays old (steps_of entries) (replies_of entries) new

-- A piece of work was not begun, or memory was short for it or for its reply.
abbrev pub IsLeftOut : StoreView → Work → StoreView → Type 0
IsLeftOut old work new = (new ≡ old) ⊎ ((reply : Reply) × IsLost reply × Works old work reply new)

-- It made no entry of this piece of work. The history and the machine are as they were.
pub record IsPutBack (id : SessionId) (old : SessionView) (c : Known) (work : Work) (e : Refusal) (new : SessionView) (d : Known) : Type 0 where
  pub enters : Enters id old c [] new d
  pub out : IsLeftOut old.store work new.store
  pub denied : DeniesWork id.begin new.log work e

-- It found no job of this choice: all is as it was, but that the client has seen the history.
pub record FindsNoJob (id : SessionId) (old : SessionView) (c : Known) (choice : Choice) (new : SessionView) (d : Known) : Type 0 where
  pub none : work_decided (machine_of old.store) (Take (Some choice)) ≡ Given None
  pub enters : Enters id old c [] new d
  pub same : new ≡ old

-- It took the job of this choice and told the reply, or found none.
abbrev pub IsTakenOf : SessionId → SessionView → Known → Choice → Option Told → SessionView → Known → Type 0
IsTakenOf id old c choice None new d = FindsNoJob id old c choice new d
IsTakenOf id old c choice (Some answer) new d = EntersStep id old c (Worked (Take (Some choice))) 0 answer new d

-- It made no entry of the taking of this choice, for which there is a job.
pub record IsNotTakenOf (id : SessionId) (old : SessionView) (c : Known) (choice : Choice) (e : Refusal) (new : SessionView) (d : Known) : Type 0 where
  pub piece : IsPutBack id old c (Take (Some choice)) e new d
  pub gives : Gives (machine_of old.store) (Take (Some choice))

-- It took the job of some choice that could be taken, where no flush was to be taken first and no merge was held, and told the reply.
pub record IsSomeTaken (id : SessionId) (old : SessionView) (c : Known) (answer : Told) (new : SessionView) (d : Known) : Type 0 where
  pub choice : Choice
  pub step : EntersStep id old c (Worked (Take (Some choice))) 0 answer new d
  pub may : MayChoose (machine_of old.store) choice
  pub next : MayMerge (machine_of old.store)

-- It took such a job, or none: then all is as it was, but that the client has seen the history.
abbrev pub IsTakenNext : SessionId → SessionView → Known → Option Told → SessionView → Known → Type 0
IsTakenNext id old c None new d = Enters id old c [] new d × (new ≡ old)
IsTakenNext id old c (Some answer) new d = IsSomeTaken id old c answer new d

-- It made no entry of the taking of some choice.
abbrev pub IsNotTakenNext : SessionId → SessionView → Known → Refusal → SessionView → Known → Type 0
IsNotTakenNext id old c e new d = (choice : Choice) × IsNotTakenOf id old c choice e new d

-- an idle turn leaves the machine as it was
abbrev pub StaysIfIdle : {A : Type 0} → Turn A → SessionView → SessionView → Type 0
StaysIfIdle turn.Idle old new = machine_of new.store ≡ machine_of old.store
StaysIfIdle (turn.Did reply) old new = Unit {0}
StaysIfIdle (turn.Merge job result input) old new = Unit {0}

-- The client took a turn over the slots at these places.
pub record TakesAmong {A : Type 0} (id : SessionId) (old : SessionView) (c : Known) (places : List ℕ) (turn : Turn A) (new : SessionView) (d : Known) : Type 0 where
  pub entries : List Event
  pub enters : Enters id old c entries new d
  pub serves : AreServedBy old.store entries new.store
  pub takes : IsTurn (machine_of old.store) places c.number turn entries
  pub stays : StaysIfIdle turn old new

-- It took no whole turn over them: what it did stands, and then came a piece that is no entry.
pub record StopsAmong (id : SessionId) (old : SessionView) (c : Known) (places : List ℕ) (e : Refusal) (new : SessionView) (d : Known) : Type 0 where
  pub entries : List Event
  pub enters : Enters id old c entries new d
  pub left : Work
  pub mid : StoreView
  pub serves : AreServedBy old.store entries mid
  pub out : IsLeftOut mid left new.store
  pub stops : StopsBefore (machine_of old.store) places entries left
  pub denied : DeniesWork id.begin new.log left e

-- The client brought a result, and was told the reply to the accept.
pub record IsBroughtBy (id : SessionId) (old : SessionView) (c : Known) (job result : ℕ) (made : MergeResult) (answer : Told) (new : SessionView) (d : Known) : Type 0 where
  pub reply : Reply
  pub told : answer ≡ Replied reply
  pub entries : List Event
  pub enters : Enters id old c entries new d
  pub serves : AreServedBy old.store entries new.store
  pub brought : IsBrought c.number job result made reply entries

-- It did not bring it wholly: what it did stands, and then came a piece that is no entry.
pub record StopsBringing (id : SessionId) (old : SessionView) (c : Known) (job result : ℕ) (made : MergeResult) (e : Refusal) (new : SessionView) (d : Known) : Type 0 where
  pub entries : List Event
  pub enters : Enters id old c entries new d
  pub left : Work
  pub mid : StoreView
  pub serves : AreServedBy old.store entries mid
  pub out : IsLeftOut mid left new.store
  pub behind : IsLeftOfBringing c.number job result made entries left
  pub denied : DeniesWork id.begin new.log left e
