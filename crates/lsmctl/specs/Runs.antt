-- What a run of the program does.
use Rattle.std.specs.Prelude.{◌≡◌, ◌⊎◌, ℕ, Bool, false, List, [], Option, Some, None, is_some, Result, Err, IfSome, IsTrue, MatchResult}
use Rattle.std.specs.Borrow.{Bor}
use Rattle.std.specs.List.{list_any}
use Rattle.std.specs.Io.KnownBytes.{Appends, Keeps}
use Rattle.clap.specs.Words.{Row, Text, fault_of, subcommand_of}
use Rattle.lsm_device.specs.declared.refusal.Refusal.TheVariants.{NoMemory}
use Rattle.lsm_language.specs.declared.subcommand.Subcommand.{Subcommand}
use Rattle.lsm_language.specs.declared.request.Request.{Request}
use Rattle.lsm_language.specs.declared.request.Request.TheVariants as request
use Rattle.lsmctl.specs.declared.answer.Answer.{Answer}
use Rattle.lsm_language.specs.declared.program_error.ProgramError.{ProgramError}
use Rattle.lsm_language.specs.Faults.{Reason, mistake, refusal, unread, reason_of}
use Rattle.lsm_language.specs.Scripts.{read_within}
use Rattle.lsm_language.specs.Words.{after}
use Rattle.lsmctl.specs.Program.{program, Asks}
use Rattle.lsm_language.specs.Requests.{Says, reason_for, wants_script}
use Rattle.lsmctl.specs.Answers.{Comes, LoadsTo, lines_of}
use Rattle.lsmctl.specs.Refusing.{FaultsWith}
use Rattle.lsmctl.specs.Endings.{Concludes, Written, answer_status}

-- ---- what is asked for

-- whether a word begins with a dash
abbrev pub has_dash : List Text → Bool
has_dash words = list_any (λ word. is_some (after 45 word)) words

-- What the words ask for: the parser finds no fault in them, but a subcommand and its words, and none begins with a dash.
pub record IsAsked (words : List Text) (asked : Subcommand) : Type 0 where
  pub name : Text
  pub rows : List Row
  pub faultless : fault_of program words ≡ []
  pub dashless : has_dash words ≡ false
  pub found : subcommand_of program words ≡ Some (name, rows)
  pub asks : Asks name rows asked

-- they ask for nothing
pub record AskNothing (words : List Text) : Type 0 where
  pub none : (asked : Subcommand) → ¬ (IsAsked words asked)

-- The words and the script, which is all that is read of the input, as far as that is known: all of it, unless a line is too long, by which
-- the script is wrong.
pub record IsRead (words : List Text) (input : Option (List ℕ)) (asked : Subcommand) (text : List ℕ) : Type 0 where
  pub words_ask : IsAsked words asked
  pub whole : IsTrue (wants_script asked) → IfSome input (λ all. text ≡ read_within 300001 all)

-- nothing is wrong with them, and the request is what they say
pub record IsRequested (words : List Text) (input : Option (List ℕ)) (request : Request) : Type 0 where
  pub asked : Subcommand
  pub text : List ℕ
  pub read : IsRead words input asked text
  pub sound : reason_for asked text ≡ None
  pub says : Says asked text request

-- ---- what comes of it

-- The answer is one to what the words and the input ask for, and is to be printed after what the output holds then.
pub record IsServed (words : List Text) (input output output_after : Option (List ℕ)) (answer : Answer) : Type 0 where
  pub request : Request
  pub requested : IsRequested words input request
  pub comes : Comes request input output output_after answer

-- and just its lines were printed there; it isn't one of those that tell what is wrong or lacks, which end a run with 1
pub record HasServed (words : List Text) (input output output_after : Option (List ℕ)) : Type 0 where
  pub answer : Answer
  pub between : Option (List ℕ)
  pub served : IsServed words input output between answer
  pub prints : Appends between output_after (lines_of answer)
  pub good : answer_status answer.output ≡ 0

-- this is the first that is wrong with the words and the script
pub record IsWrong (words : List Text) (input : Option (List ℕ)) (reason : Reason) : Type 0 where
  pub asked : Subcommand
  pub text : List ℕ
  pub read : IsRead words input asked text
  pub first : reason_for asked text ≡ Some reason

-- the script was asked for, and could not be read
pub record IsUnread (words : List Text) : Type 0 where
  pub asked : Subcommand
  pub words_ask : IsAsked words asked
  pub wants : IsTrue (wants_script asked)

-- Why nothing was done: a mistake of the words or of the script, or no memory for these, or a script that could not be read.
abbrev pub IsUntried : List Text → Option (List ℕ) → Reason → Type 0
IsUntried words input reason = IsWrong words input reason
    ⊎ (((reason ≡ mistake) × AskNothing words) ⊎ ((reason ≡ refusal NoMemory) ⊎ ((reason ≡ unread) × IsUnread words)))

-- What the words and the input ask for was tried, and has no answer, for this reason; and what was printed.
pub record IsTried (words : List Text) (input : Option (List ℕ)) (reason : Reason) (output output_after : Option (List ℕ)) : Type 0 where
  pub request : Request
  pub requested : IsRequested words input request
  pub faults : FaultsWith request input reason output output_after

-- Why there is no answer, and what was printed all the same: nothing was done, and nothing printed; or it was tried.
abbrev pub Fails : List Text → Option (List ℕ) → Reason → Option (List ℕ) → Option (List ℕ) → Type 0
Fails words input reason output output_after = (IsUntried words input reason × Keeps output output_after) ⊎ IsTried words input reason output output_after

-- rows were to be loaded, and were up to a line that is no row
pub record LoadsToNoRow (words : List Text) (input output output_after : Option (List ℕ)) : Type 0 where
  pub file : Bor (List ℕ)
  pub requested : IsRequested words input (request.Load file)
  pub loads : LoadsTo input output output_after mistake

-- A mistake was found, of the words or of the script, and nothing was printed; or one among rows, and how many were loaded before was.
abbrev pub FindsMistake : List Text → Option (List ℕ) → Option (List ℕ) → Option (List ℕ) → Type 0
FindsMistake words input output output_after = ((AskNothing words ⊎ IsWrong words input mistake) × Keeps output output_after) ⊎ LoadsToNoRow words input output output_after

-- ---- how a run ends

-- a run of the program: what comes of the words and the input is printed, and this is the exit status
pub record IsRun (words : List Text) (input : Option (List ℕ)) (bytes : Written) (ends : ℕ) : Type 0 where
  pub answered : Result Answer ProgramError
  pub between : Option (List ℕ)
  pub comes : MatchResult answered (IsServed words input bytes.output between)
      (λ fault. Fails words input (reason_of fault) bytes.output between)
  pub concludes : Concludes answered (record bytes { output = between }) ends

-- no words could be taken: one is no text, or memory was refused; just that is told
pub record IsWordless (bytes : Written) (ends : ℕ) : Type 0 where
  pub fault : ProgramError
  pub cause : (reason_of fault ≡ mistake) ⊎ (reason_of fault ≡ refusal NoMemory)
  pub concludes : Concludes (Err fault) bytes ends

-- A run of the program by its words: there were words that are text, and this is a run on them; or there were none that could be
-- taken, for want of memory or of text, and just that is told.
abbrev pub IsStarted : Option (List ℕ) → Written → ℕ → Type 0
IsStarted input bytes ends = ((words : List Text) × IsRun words input bytes ends) ⊎ IsWordless bytes ends
