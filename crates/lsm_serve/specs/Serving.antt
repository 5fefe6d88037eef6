-- How a store is served, line by line.
use Rattle.std.specs.Prelude.{◌≡◌, ◌≢◌, ◌⊎◌, ◌≤◌, ℕ, List, ◌++◌, All, length, Option, Result, Ok, Err, IfSome}
use Rattle.std.specs.Io.KnownBytes.{Appends}
use Rattle.lsm_device.specs.declared.refusal.Refusal.{Refusal}
use Rattle.lsm_device.specs.declared.refusal.Refusal.TheVariants.{Exhausted, NoMemory, Stopped}
use Rattle.lsm_language.specs.declared.program_error.ProgramError.{ProgramError}
use Rattle.lsm_language.specs.Faults.{Reason, refusal, unread, unwritten, reason_of}
use Rattle.lsm_store.specs.Backing.{StoreView}
use Rattle.lsm_machine.specs.Calls.{Reply, Sync, Done, Refused}
use Rattle.lsm_store.specs.Serving.{Serves}
use Rattle.lsm_serve.specs.Answering.{Answered, AnswersLines, answers_text}
use Rattle.lsm_serve.specs.Reading.{HasNoNewline, lines_text}

-- these lines, each with the newline that ends it, are all of an input, or the first of it, as far as that is known
abbrev pub AreAll : Option (List ℕ) → List (List ℕ) → Type 0
AreAll input lines = All HasNoNewline lines × IfSome input (λ all. all ≡ lines_text lines)

abbrev pub AreFirst : Option (List ℕ) → List (List ℕ) → Type 0
AreFirst input lines = All HasNoNewline lines × IfSome input (λ all. (rest : List ℕ) × (all ≡ lines_text lines ++ rest))

-- Why an answer was not told, and what the output is then: memory for its text was refused, and the output is as it was; or the
-- output failed, and nothing is known of it.
abbrev pub Untold : Reason → Option (List ℕ) → Option (List ℕ) → Type 0
Untold (refusal r) output output_after = (r ≡ NoMemory) × (output_after ≡ output)
Untold unwritten output output_after = Unit {0}
Untold other output output_after = ⊥

-- the texts of answers were printed, but perhaps of the last
pub record ToldMost (answers : List Answered) (output output_after : Option (List ℕ)) : Type 0 where
  pub told : List Answered
  pub untold : List Answered
  pub all : answers ≡ told ++ untold
  pub few : length untold ≤ 1
  pub appends : Appends output output_after (answers_text 1 told)

abbrev pub ToldBefore : Reason → List Answered → Option (List ℕ) → Option (List ℕ) → Type 0
ToldBefore (refusal r) answers output output_after = ToldMost answers output output_after
ToldBefore unread answers output output_after = Appends output output_after (answers_text 1 answers)
ToldBefore unwritten answers output output_after = Unit {0}
ToldBefore other answers output output_after = ⊥

-- what was printed of the answers: the text of each, one after another
abbrev pub Told : Result (Unit {0}) ProgramError → List Answered → Option (List ℕ) → Option (List ℕ) → Type 0
Told (Ok done) answers output output_after = Appends output output_after (answers_text 1 answers)
Told (Err fault) answers output output_after = ToldBefore (reason_of fault) answers output output_after

abbrev pub HaveCome : Result (Unit {0}) ProgramError → Option (List ℕ) → List (List ℕ) → Type 0
HaveCome (Ok done) input lines = AreAll input lines
HaveCome (Err fault) input lines = AreFirst input lines

-- ---- why lines are answered no longer

-- the most lines that are answered: each has a number from 1 on, below 2^64 - 1
abbrev pub most_lines : ℕ
most_lines = 18446744073709551614

-- Why no more lines were answered: the next one can't be read, or no newline ends it; the answer to the last can't be written; memory for
-- the next one or for the text of the last answer was refused; or they are the most.
abbrev pub EndsEarly : Reason → List (List ℕ) → Type 0
EndsEarly unread lines = Unit {0}
EndsEarly unwritten lines = 1 ≤ length lines
EndsEarly (refusal r) lines = (r ≡ NoMemory) ⊎ ((r ≡ Exhausted) × (length lines ≡ most_lines))
EndsEarly other lines = ⊥

abbrev pub MayEnd : Result (Unit {0}) ProgramError → List (List ℕ) → Type 0
MayEnd (Ok done) lines = Unit {0}
MayEnd (Err fault) lines = EndsEarly (reason_of fault) lines

-- The lines of an input were answered one after another, all of them, or the first up to a fault. The answers were printed.
pub record AreServed (input : Option (List ℕ)) (result : Result (Unit {0}) ProgramError) (before after : StoreView) (output output_after : Option (List ℕ)) : Type 0 where
  pub lines : List (List ℕ)
  pub answers : List Answered
  pub serves : AnswersLines before lines answers after
  pub come : HaveCome result input lines
  pub told : Told result answers output output_after
  pub may : MayEnd result lines

-- ---- the end

-- the store was synced, unless it is stopped
pub record IsSynced (before after : StoreView) : Type 0 where
  pub reply : Reply
  pub serves : Serves before Sync reply after
  pub synced : (reply ≡ Done) ⊎ (reply ≡ Refused Stopped)

-- that was refused to a store that is not stopped
pub record IsUnsynced (fault : ProgramError) (before after : StoreView) : Type 0 where
  pub r : Refusal
  pub reason : reason_of fault ≡ refusal r
  pub running : r ≢ Stopped
  pub serves : Serves before Sync (Refused r) after

-- all lines were answered, and all answers printed, but the store was not synced
pub record EndsUnsynced (input : Option (List ℕ)) (fault : ProgramError) (lines : List (List ℕ)) (answers : List Answered) (last after : StoreView) (output output_after : Option (List ℕ)) : Type 0 where
  pub all : AreAll input lines
  pub told : Appends output output_after (answers_text 1 answers)
  pub unsynced : IsUnsynced fault last after

-- the store was asked for a sync
abbrev pub IsAskedToSync : StoreView → StoreView → Type 0
IsAskedToSync before after = (reply : Reply) × Serves before Sync reply after

-- the store was synced; or it was asked for a sync, since lines are answered no longer; or the sync was refused
abbrev pub Ends : Result (Unit {0}) ProgramError → Option (List ℕ) → List (List ℕ) → List Answered → StoreView → StoreView → Option (List ℕ) → Option (List ℕ) → Type 0
Ends (Ok done) input lines answers last after output output_after = IsSynced last after
Ends (Err fault) input lines answers last after output output_after = (IsAskedToSync last after × EndsEarly (reason_of fault) lines) ⊎ EndsUnsynced input fault lines answers last after output output_after

-- The lines of an input were answered so, and at the end the store was synced.
pub record IsServed (input : Option (List ℕ)) (result : Result (Unit {0}) ProgramError) (before after : StoreView) (output output_after : Option (List ℕ)) : Type 0 where
  pub lines : List (List ℕ)
  pub answers : List Answered
  pub last : StoreView
  pub serves : AnswersLines before lines answers last
  pub come : HaveCome result input lines
  pub told : Told result answers output output_after
  pub ends : Ends result input lines answers last after output output_after
