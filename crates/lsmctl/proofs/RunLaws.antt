-- What follows from how a run of the program ends.
use Rattle.std.proofs.Common.{◌≡◌, ◌∙◌, ℕ, Bor, List, Option, Some, None, Result, Ok, Err, MatchResult, true, false, true≢false, refl, sym, ap, subst, inl, inr, arith, ◌⊎◌}
use Rattle.std.specs.Prelude.{IfErr, IfOk, IsTrue}
use Rattle.std.specs.Io.KnownBytes.{Appends, Keeps}
use Rattle.std.specs.declared.io.Error.{Error}
use Rattle.clap.specs.Words.{HasKind, IsAmong, kind_of, Row, Text, fault_of, subcommand_of}
use Rattle.clap.specs.declared.error.Error.{Error as ClapError}
use Rattle.clap.specs.declared.error.kind.ErrorKind.{ErrorKind}
use Rattle.clap.specs.declared.error.kind.ErrorKind.TheVariants.{OutOfMemory}
use Rattle.lsm_device.specs.declared.refusal.Refusal.{Refusal}
use Rattle.lsm_device.specs.declared.refusal.Refusal.TheVariants.{NoMemory, Stopped}
use Rattle.lsmctl.specs.declared.answer.Answer.{Answer}
use Rattle.lsm_language.specs.declared.subcommand.Subcommand.{Subcommand}
use Rattle.lsm_language.specs.declared.subcommand.Subcommand.TheVariants as subcommand
use Rattle.lsm_language.specs.declared.request.Request.{Request}
use Rattle.lsm_language.specs.declared.request.Request.TheVariants as request
use Rattle.lsm_language.specs.declared.program_error.ProgramError.{ProgramError}
use Rattle.lsm_language.specs.Faults.{Reason, mistake, refusal, unopened, unread, unwritten, reason_of, status_of}
use Rattle.lsmctl.specs.Program.{has_words, program}
use Rattle.lsm_language.specs.Requests.{Says, reason_for, wants_script}
use Rattle.lsmctl.specs.Answers.{Comes, LoadsTo, TellsLoaded, TellsNumber, TellsServed}
use Rattle.lsm_serve.specs.Answering.{Answered}
use Rattle.lsm_serve.specs.Serving.{ToldBefore}
use Rattle.lsmctl.specs.Refusing.{FaultsWith}
use Rattle.lsmctl.specs.Loading.{loaded_line}
use Rattle.lsmctl.proofs.EndingLaws.{answer_status-at_most, answer_status-silent}
use Rattle.lsmctl.specs.Endings.{PrintsAnswer, PrintsFault, Written, status_after}
use Rattle.lsmctl.specs.Runs.{AskNothing, IsAsked, Fails, FindsMistake, HasServed, IsRead, IsRequested, IsRun, IsServed, IsTried, IsUntried, IsWrong, LoadsToNoRow, has_dash}
use Rattle.lsmctl.proofs.ProgramLaws.{has_words-asked}

-- ---- words that ask for nothing

pub AskNothing-faults : (words : List Text) (k : ErrorKind) → IsAmong k (fault_of program words) → AskNothing words
AskNothing-faults words k among = record { none = λ asked a. subst (IsAmong k) a.faultless among }

-- the parser's error
pub AskNothing-error : (words : List Text) (e : ClapError) → HasKind (fault_of program words) e → (kind_of e ≡ OutOfMemory → ⊥) → AskNothing words
AskNothing-error words e (inl short) other = absurd (other short)
AskNothing-error words e (inr among) other = AskNothing-faults words (kind_of e) among

pub AskNothing-dash : (words : List Text) → has_dash words ≡ true → AskNothing words
AskNothing-dash words e = record { none = λ asked a. true≢false (sym e ∙ a.dashless) }

pub AskNothing-bare : (words : List Text) → subcommand_of program words ≡ None → AskNothing words
AskNothing-bare words e = record { none = λ asked a. not_some (sym e ∙ a.found) }
  where
    not_some : {X : Type 0} {x : X} → None ≡ Some x → ⊥
    not_some h = cc

pub AskNothing-words : (words : List Text) (name : Text) (rows : List Row) → subcommand_of program words ≡ Some (name, rows)
    → has_words name rows ≡ false → AskNothing words
AskNothing-words words name rows found e = record {
  none = λ asked a.
      true≢false (sym (has_words-asked a.name a.rows asked a.asks) ∙ same (a.name, a.rows) (name, rows) (sym a.found ∙ found) ∙ e);
}
  where
    same : (p q : Text × List Row) → Some p ≡ Some q → has_words p.0 p.1 ≡ has_words q.0 q.1
    same p q h = let e : p ≡ q = cc in ap (λ (r : Text × List Row). has_words r.0 r.1) e

-- ---- why there is no answer

-- the first that is wrong with what was read
pub untried-request : (words : List Text) (input : Option (List ℕ)) (asked : Subcommand) (text : List ℕ) (reason : Reason) → IsRead words input asked text
    → (reason_for asked text ≡ Some reason) ⊎ (reason ≡ refusal NoMemory) → IsUntried words input reason
untried-request words input asked text reason read (inl e) = inl record { asked = asked; text = text; read = read; first = e }
untried-request words input asked text reason read (inr e) = inr (inr (inl e))

-- words that ask for nothing, or no memory for them
pub untried-words : (words : List Text) (input : Option (List ℕ)) (reason : Reason) → ((reason ≡ mistake) × AskNothing words) ⊎ (reason ≡ refusal NoMemory) → IsUntried words input reason
untried-words words input reason (inl nothing) = inr (inl nothing)
untried-words words input reason (inr short) = inr (inr (inl short))

-- a script that could not be read, or no memory for it
pub untried-script : (words : List Text) (input : Option (List ℕ)) (asked : Subcommand) (reason : Reason) → IsAsked words asked
    → (reason ≡ refusal NoMemory) ⊎ ((reason ≡ unread) × IsTrue (wants_script asked)) → IsUntried words input reason
untried-script words input asked reason words_ask (inl short) = inr (inr (inl short))
untried-script words input asked reason words_ask (inr (is, wants)) = inr (inr (inr (is, record { asked = asked; words_ask = words_ask; wants = wants })))

-- known bytes that are the same are kept
pub keeps : (old new : Option (List ℕ)) → new ≡ old → Keeps old new
keeps None new e = tt
keeps (Some xs) None e = cc
keeps (Some xs) (Some ys) e = cc

-- the input is left as it is before it is read for rows
untouched_lines : (asked : Subcommand) (text : List ℕ) (path : Bor (List ℕ)) → Says asked text (request.Serve path) → wants_script asked ≡ false
untouched_lines (subcommand.Serve file) text path says = refl
untouched_lines other text path says = absurd says

untouched : (asked : Subcommand) (text : List ℕ) (path : Bor (List ℕ)) → Says asked text (request.Load path) → wants_script asked ≡ false
untouched (subcommand.Load file) text path says = refl
untouched other text path says = absurd says

module _ (asked : Subcommand) (text : List ℕ) (before after output output_after : Option (List ℕ)) (same : wants_script asked ≡ false → after ≡ before) where
  pub comes_of : (r : Request) (answer : Answer) → Says asked text r → Comes r after output output_after answer → Comes r before output output_after answer
  comes_of (request.Load path) answer says comes = subst (λ (i : Option (List ℕ)). Comes (request.Load path) i output output_after answer) (same (untouched asked text path says)) comes
  comes_of (request.Serve path) answer says comes = subst (λ (i : Option (List ℕ)). Comes (request.Serve path) i output output_after answer) (same (untouched_lines asked text path says)) comes
  comes_of other answer says comes = comes

  pub faults_of : (r : Request) (reason : Reason) → Says asked text r → FaultsWith r after reason output output_after → FaultsWith r before reason output output_after
  faults_of (request.Load path) reason says faults = subst (λ (i : Option (List ℕ)). FaultsWith (request.Load path) i reason output output_after) (same (untouched asked text path says)) faults
  faults_of (request.Serve path) reason says faults = subst (λ (i : Option (List ℕ)). FaultsWith (request.Serve path) i reason output output_after) (same (untouched_lines asked text path says)) faults
  faults_of other reason says faults = faults

-- what comes of a request
pub answered_so : (words : List Text) (input left output output_after : Option (List ℕ)) (asked : Subcommand) (text : List ℕ) (request : Request) (result : Result Answer ProgramError)
    → IsRead words input asked text → reason_for asked text ≡ None → Says asked text request → (wants_script asked ≡ false → left ≡ input)
    → IfOk result (Comes request left output output_after) → IfErr result (λ e. FaultsWith request left (reason_of e) output output_after)
    → MatchResult result (IsServed words input output output_after) (λ fault. Fails words input (reason_of fault) output output_after)
answered_so words input left output output_after asked text request (Ok answer) read sound says same comes faults = record {
  request = request;
  requested = record { asked = asked; text = text; read = read; sound = sound; says = says };
  comes = comes_of asked text input left output output_after same request answer says comes;
}
answered_so words input left output output_after asked text request (Err fault) read sound says same comes faults = inr record {
  request = request;
  requested = record { asked = asked; text = text; read = read; sound = sound; says = says };
  faults = faults_of asked text input left output output_after same request (reason_of fault) says faults;
}

-- ---- the clauses of a run, from what it is

status_of-positive : (r : Reason) → status_of r ≡ 0 → ⊥
status_of-positive mistake e = grind arith
status_of-positive (refusal r) e = grind arith
status_of-positive (unopened cause) e = grind arith
status_of-positive unread e = grind arith
status_of-positive unwritten e = grind arith

status_of-mistake : (r : Reason) → status_of r ≡ 2 → r ≡ mistake
status_of-mistake mistake e = grind arith
status_of-mistake (refusal r) e = grind arith
status_of-mistake (unopened cause) e = grind arith
status_of-mistake unread e = grind arith
status_of-mistake unwritten e = grind arith

-- bytes that are kept again
keeps_again : (a b c : Option (List ℕ)) → Keeps a b → Keeps b c → Keeps a c
keeps_again None b c first second = tt
keeps_again (Some xs) None c first second = absurd first
keeps_again (Some xs) (Some ys) None first second = absurd second
keeps_again (Some xs) (Some ys) (Some zs) first second = second ∙ first

appends_kept : (a b c : Option (List ℕ)) (bs : List ℕ) → Appends a b bs → Keeps b c → Appends a c bs
appends_kept None b c bs first second = tt
appends_kept (Some xs) None c bs first second = absurd first
appends_kept (Some xs) (Some ys) None bs first second = absurd second
appends_kept (Some xs) (Some ys) (Some zs) bs first second = second ∙ first

tells_kept : (rows : ℕ) (why reason : Reason) (output between output_after : Option (List ℕ)) → TellsNumber rows why reason output between → Keeps between output_after
    → TellsNumber rows why reason output output_after
tells_kept rows why reason output between output_after (inl (same, printed)) kept = inl (same, appends_kept output between output_after (loaded_line rows) printed kept)
tells_kept rows why reason output between output_after (inr unknown) kept = inr unknown

-- what is shown of a mistake
loads_kept : (input output between output_after : Option (List ℕ)) (reason : Reason) → LoadsTo input output between reason → Keeps between output_after → LoadsTo input output output_after reason
loads_kept input output between output_after reason l kept = record {
  store = l.store;
  after = l.after;
  loaded = l.loaded;
  fault = l.fault;
  opened = l.opened;
  loads = l.loads;
  ends = l.ends;
  tells = tells_kept l.loaded.rows (reason_of l.fault) reason output between output_after l.tells kept;
}

-- a store is not served no longer for a mistake
not_served : (reason : Reason) (answers : List Answered) (output output_after : Option (List ℕ)) → ToldBefore reason answers output output_after → reason ≡ mistake → ⊥
not_served mistake answers output output_after told is = told
not_served (refusal r) answers output output_after told is = cc
not_served (unopened cause) answers output output_after told is = cc
not_served unread answers output output_after told is = cc
not_served unwritten answers output output_after told is = cc

-- it is told of rows alone
module _ (words : List Text) (input output output_after : Option (List ℕ)) where
  load_tried : (path : Bor (List ℕ)) → IsRequested words input (request.Load path) → TellsLoaded input mistake output output_after → LoadsToNoRow words input output output_after
  load_tried path requested (inl (refused, same)) = absurd refused
  load_tried path requested (inr loads) = record { file = path; requested = requested; loads = loads }

  serve_tried : TellsServed input mistake output output_after → ⊥
  serve_tried (inl (refused, same)) = refused
  serve_tried (inr (inr stops)) = not_stopped stops.is
    where
      not_stopped : mistake ≡ refusal Stopped → ⊥
      not_stopped h = cc
  serve_tried (inr (inl serves)) = not_served (reason_of serves.fault) serves.serves.answers output output_after serves.serves.told serves.same

  mistake_tried : (r : Request) → IsRequested words input r → FaultsWith r input mistake output output_after → LoadsToNoRow words input output output_after
  mistake_tried (request.Dump path) requested faults = absurd faults
  mistake_tried (request.Load path) requested faults = load_tried path requested faults
  mistake_tried (request.Serve path) requested faults = absurd (serve_tried faults)
  mistake_tried other requested faults = absurd faults.0

  tried_mistake : IsTried words input mistake output output_after → LoadsToNoRow words input output output_after
  tried_mistake tried =
      mistake_tried tried.request tried.requested tried.faults

finds_mistake : (words : List Text) (input output between output_after : Option (List ℕ)) → Fails words input mistake output between → Keeps between output_after
    → FindsMistake words input output output_after
finds_mistake words input output between output_after (inl (untried, same)) kept = inl (by untried, keeps_again output between output_after same kept)
  where
    not_memory : mistake ≡ refusal NoMemory → ⊥
    not_memory h = cc

    not_unread : mistake ≡ unread → ⊥
    not_unread h = cc

    by : IsUntried words input mistake → AskNothing words ⊎ IsWrong words input mistake
    by (inl wrong) = inr wrong
    by (inr (inl (is, nothing))) = inl nothing
    by (inr (inr (inl short))) = absurd (not_memory short)
    by (inr (inr (inr (is, could_not)))) = absurd (not_unread is)
finds_mistake words input output between output_after (inr tried) kept =
    let l = tried_mistake words input output between tried in
    inr record { file = l.file; requested = l.requested; loads = loads_kept input output between output_after mistake l.loads kept }

module _ (words : List Text) (input : Option (List ℕ)) (bytes : Written) (ends : ℕ) where
  -- a run that ends with 0 printed an answer and no fault
  pub done-of_run : IsRun words input bytes ends → ends ≡ 0 → HasServed words input bytes.output bytes.output_after × Keeps bytes.errors bytes.errors_after
  done-of_run run zero = by_cases run.answered run.concludes.written (sym run.concludes.status ∙ zero) run.comes run.concludes.answer run.concludes.fault
    where
      by_cases : (answered : Result Answer ProgramError) (written : Result (Unit {0}) Error) → status_after answered written ≡ 0
          → MatchResult answered (IsServed words input bytes.output run.between) (λ fault. Fails words input (reason_of fault) bytes.output run.between)
          → PrintsAnswer answered written run.between bytes.output_after → PrintsFault answered written bytes.errors bytes.errors_after
          → HasServed words input bytes.output bytes.output_after × Keeps bytes.errors bytes.errors_after
      by_cases (Ok answer) (Ok done) e served printed told = (
        record { answer = answer; between = run.between; served = served; prints = printed; good = e },
        answer_status-silent answer.output bytes.errors bytes.errors_after e told,
      )
      by_cases (Ok answer) (Err error) e served printed kept = grind arith
      by_cases (Err fault) (Ok done) e failed kept reported = absurd (status_of-positive (reason_of fault) e)
      by_cases (Err fault) (Err error) e failed kept reported = grind arith

  -- a run that ends with 2 found a mistake and printed no answer
  pub mistake-of_run : IsRun words input bytes ends → ends ≡ 2 → FindsMistake words input bytes.output bytes.output_after
  mistake-of_run run two = by_cases run.answered run.concludes.written (sym run.concludes.status ∙ two) run.comes run.concludes.answer
    where
      by_cases : (answered : Result Answer ProgramError) (written : Result (Unit {0}) Error) → status_after answered written ≡ 2
          → MatchResult answered (IsServed words input bytes.output run.between) (λ fault. Fails words input (reason_of fault) bytes.output run.between)
          → PrintsAnswer answered written run.between bytes.output_after → FindsMistake words input bytes.output bytes.output_after
      by_cases (Ok answer) (Ok done) e served printed = absurd (omega (arith, e, answer_status-at_most answer.output))
      by_cases (Ok answer) (Err error) e served printed = grind arith
      by_cases (Err fault) (Ok done) e failed kept =
          finds_mistake words input bytes.output run.between bytes.output_after
          (subst (λ (reason : Reason). Fails words input reason bytes.output run.between) (status_of-mistake (reason_of fault) e) failed) kept
      by_cases (Err fault) (Err error) e failed kept = grind arith
