-- What answers come to: a run of the machine.
use Rattle.std.specs.Prelude.{◌≡◌, ◌⊎◌, ℕ, List, [], ◌∷◌, ◌++◌}
use Rattle.lsm_device.specs.declared.refusal.Refusal.TheVariants.{NoMemory, NoSpace}
use Rattle.lsm_lives.specs.Replaying.{GoOn, Replays}
use Rattle.lsm_language.specs.Replies.{counted_by}
use Rattle.lsm_store.specs.Backing.{StoreView}
use Rattle.lsm_machine.specs.Calls.{Call, Reply, Commit, CommitIf, Refused, as_told}
use Rattle.lsm_machine.specs.Machine.{Step, Called}
use Rattle.lsm_upkeep.specs.Steps.{IsUpkeepStep}
use Rattle.lsm_upkeep.specs.Writing.{without_log_full}
use Rattle.lsm_serve.specs.Asking.{Meaning, asks_call, asks_compaction, meaning_of}
use Rattle.lsm_serve.specs.Answering.{Answered, Outcome, refuses, tells}

-- steps of upkeep, one after another, with their replies
abbrev pub AreUpkeep : List Step → List Reply → Type 0
AreUpkeep [] [] = Unit {0}
AreUpkeep (step ∷ steps) (reply ∷ replies) = IsUpkeepStep step reply × AreUpkeep steps replies
AreUpkeep [] (reply ∷ replies) = ⊥
AreUpkeep (step ∷ steps) [] = ⊥

-- what is told of the reply to a call: of a commit that the log had no room for, NoSpace
abbrev pub told_as : Call → Reply → Reply
told_as (Commit batch) reply = without_log_full (as_told reply)
told_as (CommitIf guards batch) reply = without_log_full (as_told reply)
told_as call reply = as_told reply

-- The last of these steps is the call, and its reply is told; those before it are upkeep.
pub record EndsWithCall (call : Call) (outcome : Outcome) (steps : List Step) (replies : List Reply) : Type 0 where
  pub before : List Step
  pub earlier : List Reply
  pub reply : Reply
  pub all : steps ≡ before ++ Called call ∷ []
  pub replied : replies ≡ earlier ++ reply ∷ []
  pub upkeep : AreUpkeep before earlier
  pub told : outcome ≡ tells (counted_by call) (told_as call reply)

-- the steps that were made for a line that asks for this: a call where there was room for it, and upkeep before; upkeep for a compaction; else
-- none
abbrev pub AreFor : Meaning → Outcome → List Step → List Reply → Type 0
AreFor (asks_call call) outcome steps replies = EndsWithCall call outcome steps replies ⊎ (AreUpkeep steps replies × (outcome ≡ tells (counted_by call) (Refused NoSpace)))
AreFor asks_compaction outcome steps replies = AreUpkeep steps replies
AreFor other outcome steps replies = (steps ≡ []) × (replies ≡ [])

-- or none, where memory for reading it was refused
abbrev pub AreForLine : List ℕ → Answered → List Step → List Reply → Type 0
AreForLine line answered steps replies = AreFor (meaning_of line) answered.outcome steps replies ⊎ ((answered.outcome ≡ refuses NoMemory) × (steps ≡ []) × (replies ≡ []))

-- So are the steps of lines one after another.
abbrev pub AreForLines : List (List ℕ) → List Answered → List Step → List Reply → Type 0
AreForLines [] [] steps replies = (steps ≡ []) × (replies ≡ [])
AreForLines (line ∷ lines) (answered ∷ answers) steps replies = (first later : List Step) × (told rest : List Reply) × (steps ≡ first ++ later) × (replies ≡ told ++ rest)
    × AreForLine line answered first told × AreForLines lines answers later rest
AreForLines [] (answered ∷ answers) steps replies = ⊥
AreForLines (line ∷ lines) [] steps replies = ⊥

-- Answers to lines are a run of the machine over the calls of the lines, and the upkeep between them.
pub record IsCourse (before : StoreView) (lines : List (List ℕ)) (answers : List Answered) (after : StoreView) : Type 0 where
  pub steps : List Step
  pub replies : List Reply
  pub for_lines : AreForLines lines answers steps replies
  pub replays : Replays before steps replies after
  pub go_on : GoOn before steps replies after
