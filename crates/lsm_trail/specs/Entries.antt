-- What the entries of a trail show.
use Rattle.std.specs.Prelude.{◌≡◌, ℕ, Bool, true, false, Some}
use Rattle.lsm_merge.specs.Results.{MergeResult}
use Rattle.lsm_machine.specs.Calls.{Reply}
use Rattle.lsm_machine.specs.Calls.{Number, Handed, as_told}
use Rattle.lsm_machine.specs.Machine.{Machine, Step, Called, Worked}
use Rattle.lsm_store.specs.Serving.{reply_in}
use Rattle.lsm_machine.specs.State.{State}
use Rattle.lsm_machine.specs.Work.{Ask, Accept}
use Rattle.lsm_lives.specs.Asked.{Asked, Told, Own, Build, AcceptBuilt, Replied, Built}
use Rattle.lsm_trail.specs.History.{Event, event}

-- What contracts see of an entry that no code holds: of a build the input that was lent, and of an accept the result; and the
-- machine after the step.
pub record Beside : Type 0 where
  pub made : MergeResult
  pub machine : Machine

-- a build that was told the number of its result was lent the input; another one was refused
abbrev build_shown : ℕ → ℕ → Reply → Beside → Event
build_shown client job (Number result) b = event client (Worked (Ask job)) (Handed b.made.input) result b.machine
build_shown client job other b = event client (Worked (Ask job)) other 0 b.machine

-- the reply of a step of which this was told, where the machine is so after it
abbrev pub reply_behind : Step → State → Reply → Reply
reply_behind (Called call) s told = reply_in call s told
reply_behind (Worked piece) s told = told

-- what an entry shows
abbrev pub event_shown : ℕ → Asked → Reply → Beside → Event
event_shown client (Own step) told b = event client step (reply_behind step b.machine.state told) 0 b.machine
event_shown client (Build job parts) reply b = build_shown client job reply b
event_shown client (AcceptBuilt job result) reply b = event client (Worked (Accept job (Some b.made))) reply result b.machine

-- whether a result is to be built, and whether a number was told
abbrev pub is_build : Asked → Bool
is_build (Build job parts) = true
is_build other = false

abbrev pub is_number : Told → Bool
is_number (Replied (Number n)) = true
is_number other = false

-- What may be entered: a result is to be built in 4 parts, and what is told of any step is a reply, never how many tables a result
-- has.
abbrev pub MayBeEntered : Asked → Told → Type 0
MayBeEntered (Build job parts) (Replied reply) = parts ≡ 4
MayBeEntered other (Replied reply) = Unit {0}
MayBeEntered asked (Built result tables) = ⊥

-- An entry is of what was asked: a build of a result in 4 parts.
abbrev pub IsOfStep : Event → Asked → Type 0
IsOfStep e (Own step) = e.step ≡ step
IsOfStep e (Build job parts) = (parts ≡ 4) × (e.step ≡ Worked (Ask job))
IsOfStep e (AcceptBuilt job result) = (e.result ≡ result) × ((made : MergeResult) × (e.step ≡ Worked (Accept job (Some made))))

-- what an entry tells: of an input that was lent the number of the result, and of a read that faulted the same as of a write
abbrev pub told_in : Reply → ℕ → Told
told_in (Handed input) result = Replied (Number result)
told_in other result = Replied (as_told other)
