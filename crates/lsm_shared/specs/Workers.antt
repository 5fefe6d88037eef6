-- What a worker does.
use Rattle.std.specs.Prelude.{◌≡◌, ◌⊎◌, ◌<◌, ◌≤◌, ℕ, zero, suc, Bool, true, false, List, Some, None}
use Rattle.std.specs.Arc.{arc_value}
use Rattle.std.specs.Global.{Global}
use mathlib.Core.List.{IsPrefix}
use Rattle.lsm_device.specs.declared.refusal.Refusal.{Refusal}
use Rattle.lsm_device.specs.declared.refusal.Refusal.TheVariants.{BadLimit, NoMemory}
use Rattle.lsm_table.specs.Division.{IsTables}
use Rattle.lsm_merge.specs.Inputs.{MergeInput, kept_of}
use Rattle.lsm_merge.specs.Results.{MergeResult}
use Rattle.lsm_lives.specs.Asked.{Told}
use Rattle.lsm_trail.specs.History.{Event, calls_in, machine_after}
use Rattle.lsm_trail.specs.Knowledge.{Known}
use Rattle.lsm_shared.specs.Due.{next_due}
use Rattle.lsm_shared.specs.Turns.{TakesNext, IsNoNext, TakesDue, IsNotDue, Brings, IsNotBrought}
use Rattle.lsm_shared.specs.declared.turn.Turn.{Turn}
use Rattle.lsm_shared.specs.declared.turn.Turn.TheVariants as turn

-- a client went on, and made no call: whatever it entered are pieces of work
pub record MakesNoCall (old new : Known) : Type 0 where
  pub number : new.number ≡ old.number
  pub calls : calls_in new.mine ≡ calls_in old.mine

-- A client has seen a history after which nothing is left for it to do: no job that is held can go on, but for installs that are put
-- off, and no flush waits for which a slot is free.
pub record Rests (me : Known) : Type 0 where
  pub seen : List Event
  pub before : IsPrefix seen me.seen
  pub none : next_due (machine_after me.begin seen) me.number ≡ None

-- ---- a result

-- the tables of what a merge of this input keeps
pub record IsMerged (input : MergeInput) (made : MergeResult) : Type 0 where
  pub input_of : made.input ≡ input
  pub tables : IsTables (kept_of input) made.images

-- a result may be built in this number of parts
abbrev pub MayPart : ℕ → Type 0
MayPart parts = (1 ≤ parts) × (parts ≤ 8)

-- A client merged an input in `parts` parts, and brought the result.
pub record Delivers (parts job result : ℕ) (input : MergeInput) (old new : Known) : Type 0 where
  pub within : MayPart parts
  pub made : MergeResult
  pub merged : IsMerged input made
  pub told : Told
  pub brings : Brings old job result made told new

-- why nothing is built in `parts` parts: these are none or more than 8, or memory is short
pub record IsUnbuilt (parts : ℕ) (e : Refusal) : Type 0 where
  pub limit : (parts < 1) ⊎ (8 < parts) → e ≡ BadLimit
  pub memory : 1 ≤ parts → parts ≤ 8 → e ≡ NoMemory

-- It built nothing, and nothing has changed; or it merged the input, and could not bring the result wholly.
pub data DeliversNot (parts : ℕ) (e : Refusal) (job result : ℕ) (input : MergeInput) (old new : Known) : Type 0 where
  not_built : IsUnbuilt parts e → new ≡ old → DeliversNot parts e job result input old new
  not_brought : MayPart parts → (made : MergeResult) → IsMerged input made → IsNotBrought old job result made e new → DeliversNot parts e job result input old new

-- ---- a turn with all that it asks for

-- A turn over the slots that are due was not idle, and what it lent the client to build the client delivered.
abbrev pub EndsTurn : ℕ → Turn Global → Known → Known → Type 0
EndsTurn parts turn.Idle mid new = ⊥
EndsTurn parts (turn.Did reply) mid new = new ≡ mid
EndsTurn parts (turn.Merge job result input) mid new = Delivers parts job result (arc_value input) mid new

-- A client was busy with the taking of the merge that a policy advised, or not where it took none.
abbrev pub Chooses : Bool → Known → Known → Type 0
Chooses true old new = (answer : Told) × TakesNext old (Some answer) new
Chooses false old new = TakesNext old None new

-- a client found the slots that are due idle
abbrev pub FindsIdle : Known → Known → Type 0
FindsIdle old mid = TakesDue {A = Global} old turn.Idle mid

-- A client took a turn over the slots that are due, and delivered what it was lent to build; or that was idle, and then it asked a
-- policy for a merge.
pub data TakesWhole (parts : ℕ) (busy : Bool) (old new : Known) : Type 0 where
  turned : busy ≡ true → (taken : Turn Global) → (mid : Known) → TakesDue old taken mid → EndsTurn parts taken mid new → TakesWhole parts busy old new
  asked : (mid : Known) → FindsIdle old mid → Chooses busy mid new → TakesWhole parts busy old new

-- what it was lent to build it did not deliver
abbrev pub EndsInVain : ℕ → Refusal → Turn Global → Known → Known → Type 0
EndsInVain parts e turn.Idle mid new = ⊥
EndsInVain parts e (turn.Did reply) mid new = ⊥
EndsInVain parts e (turn.Merge job result input) mid new = DeliversNot parts e job result (arc_value input) mid new

-- It took no whole turn; or it took one, and did not deliver what it was lent to build; or it could not take what was advised.
pub data TakesPart (parts : ℕ) (e : Refusal) (old new : Known) : Type 0 where
  not_turned : IsNotDue old e new → TakesPart parts e old new
  in_vain : (taken : Turn Global) → (mid : Known) → TakesDue old taken mid → EndsInVain parts e taken mid new → TakesPart parts e old new
  not_chosen : (mid : Known) → FindsIdle old mid → IsNoNext mid e new → TakesPart parts e old new

-- ---- turns, one after another

-- a client took n turns, and was busy in each
abbrev pub TakesTurns : ℕ → ℕ → Known → Known → Type 0
TakesTurns parts zero old new = new ≡ old
TakesTurns parts (suc n) old new = (mid : Known) × TakesTurns parts n old mid × TakesWhole parts true mid new

-- It was idle in one of at most n turns, with which it ended; or it was busy in all of them.
abbrev pub TakesUpTo : ℕ → ℕ → Bool → Known → Known → Type 0
TakesUpTo turns parts true old new = (n : ℕ) × (n < turns) × (mid : Known) × TakesTurns parts n old mid × TakesWhole parts false mid new
TakesUpTo turns parts false old new = TakesTurns parts turns old new

-- One of `turns` turns was refused.
pub record StopsWithin (turns parts : ℕ) (e : Refusal) (old new : Known) : Type 0 where
  pub before : ℕ
  pub within : before < turns
  pub mid : Known
  pub takes : TakesTurns parts before old mid
  pub refused : TakesPart parts e mid new
