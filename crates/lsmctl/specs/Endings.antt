-- How a run ends: what is printed, and the exit status.
use Rattle.std.specs.Prelude.{◌≡◌, ◌==◌, ◌++◌, ◌∷◌, if◌then◌else◌, ℕ, false, List, [], Option, Result, Ok, Err, OnOk, codes}
use Rattle.std.specs.Io.KnownBytes.{Appends, Keeps}
use Rattle.std.specs.declared.io.Error.{Error}
use Rattle.lsmctl.specs.declared.answer.Answer.{Answer}
use Rattle.lsmctl.specs.declared.answer.Output.{Output}
use Rattle.lsmctl.specs.declared.answer.Output.TheVariants.{Halfway, Found, Explored, Tally}
use Rattle.lsm_language.specs.declared.program_error.ProgramError.{ProgramError}
use Rattle.lsm_language.specs.declared.program_error.ProgramError.TheVariants.{Refused, Failed, Unopened}
use Rattle.lsm_language.specs.Faults.{failed_lines, refusal_line, unopened_lines, reason_of, status_of}
use Rattle.lsm_upkeep.specs.Lacking.{lack_text}
use Rattle.lsm_upkeep.specs.declared.lacking.Lack.{Lack}
use Rattle.lsm_upkeep.specs.declared.lacking.Lack.TheVariants.{FlushWants, StepWants}
use Rattle.lsmctl.specs.Answers.{lines_of}

-- the exit status of an answer: 1 where a check or an exploration found something wrong, a tally is bad, or a store is not compacted to the
-- end
abbrev pub answer_status : Output → ℕ
answer_status (Found text) = 1
answer_status (Halfway text lack) = 1
answer_status (Explored counts) = if counts.wrong == 0 then 0 else 1
answer_status (Tally false) = 1
answer_status other = 0

-- the exit status: 1 where the answer or the fault could not be written
abbrev pub status_after : Result Answer ProgramError → Result (Unit {0}) Error → ℕ
status_after answered (Err error) = 1
status_after (Ok answer) (Ok done) = answer_status answer.output
status_after (Err fault) (Ok done) = status_of (reason_of fault)

-- the output is the answer, or stays as it is
abbrev pub PrintsAnswer : Result Answer ProgramError → Result (Unit {0}) Error → Option (List ℕ) → Option (List ℕ) → Type 0
PrintsAnswer (Ok answer) written old new = OnOk written (Appends old new (lines_of answer))
PrintsAnswer (Err fault) written old new = Keeps old new

-- a refusal is reported in one line, and a call of a file that failed, or a file that can't be opened, in two; the text of any
-- other fault is left open
abbrev pub IsReported : ProgramError → Option (List ℕ) → Option (List ℕ) → Type 0
IsReported (Refused r) old new = Appends old new (refusal_line r)
IsReported (Failed failure) old new = Appends old new (failed_lines failure)
IsReported (Unopened cause) old new = Appends old new (unopened_lines cause)
IsReported _ old new = Unit {0}

-- what helps where blocks lack
abbrev pub wanting : List ℕ
wanting = codes "; dump and load move its rows into a larger file"

abbrev pub remedy : Lack → List ℕ
remedy (FlushWants shortage) = wanting
remedy (StepWants shortage) = wanting
remedy other = []

-- what a store lacks that is not compacted to the end, and what helps, in one line
abbrev pub told_lack : Lack → List ℕ → List ℕ
told_lack lack help = codes "error: not compacted to the end: " ++ (lack_text lack ++ (help ++ 10 ∷ []))

abbrev pub lack_line : Lack → List ℕ
lack_line lack = told_lack lack (remedy lack)

-- the errors are what the answer says of it, or stay as they are
abbrev pub TellsLack : Output → Option (List ℕ) → Option (List ℕ) → Type 0
TellsLack (Halfway text lack) old new = Appends old new (lack_line lack)
TellsLack other old new = Keeps old new

-- the errors are the fault, or what a store lacks, or stay as they are; that an answer could not be written is told as far as it can be
abbrev pub PrintsFault : Result Answer ProgramError → Result (Unit {0}) Error → Option (List ℕ) → Option (List ℕ) → Type 0
PrintsFault (Ok answer) written old new = OnOk written (TellsLack answer.output old new)
PrintsFault (Err fault) written old new = OnOk written (IsReported fault old new)

-- the bytes that the writers hold before and after, as far as they are known
pub record Written : Type 0 where
  pub output : Option (List ℕ)
  pub output_after : Option (List ℕ)
  pub errors : Option (List ℕ)
  pub errors_after : Option (List ℕ)

-- an answer or a fault was printed, and this is the exit status
pub record Concludes (answered : Result Answer ProgramError) (bytes : Written) (ends : ℕ) : Type 0 where
  pub written : Result (Unit {0}) Error
  pub status : ends ≡ status_after answered written
  pub answer : PrintsAnswer answered written bytes.output bytes.output_after
  pub fault : PrintsFault answered written bytes.errors bytes.errors_after
