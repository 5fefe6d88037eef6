-- How serving goes on.
use Rattle.std.proofs.Common.{◌≡◌, ◌≤◌, ◌⊎◌, ◌∙◌, ◌+◌, ℕ, suc, Bool, true, false, true≢false, List, [], ◌∷◌, ◌++◌, length, Option, Some, None, Result, Ok, Err, refl, sym, ap, subst, arith, inl, inr, ne_eqb, ◌==◌, append_assoc, append-nil, length-append}
use Rattle.std.specs.Prelude.{All, IfSome, MatchResult}
use Rattle.std.specs.Io.KnownBytes.{Appends, Consumes, Keeps, append_known}
use Rattle.lsm_device.specs.declared.refusal.Refusal.{Refusal}
use Rattle.lsm_device.specs.declared.refusal.Refusal.TheVariants.{Exhausted, NoMemory, Stopped}
use Rattle.lsm_language.specs.declared.program_error.ProgramError.{ProgramError}
use Rattle.lsm_language.specs.Faults.{Reason, mistake, refusal, unopened, unread, unwritten, reason_of}
use Rattle.lsm_store.specs.Backing.{StoreView}
use Rattle.lsm_machine.specs.Calls.{Done, Refused, Sync, reply_of}
use Rattle.lsm_store.specs.Serving.{Serves}
use Rattle.lsm_serve.specs.Answering.{Answered, AnswersLine, AnswersLines, answer_text, answers_text}
use Rattle.lsm_serve.specs.Reading.{HasNoNewline, IsInputFault, TakesLine, lines_text}
use Rattle.std.proofs.KnownBytes.{Appends-kept, Consumes-nil, Consumes-trans}
use Rattle.std.proofs.lemmas.List.Elements.{All-nil, All-push}
use Rattle.lsm_serve.specs.Holding.{AreHeld, KeepsHeld}
use Rattle.lsm_serve.specs.Serving.{AreAll, AreFirst, AreServed, EndsEarly, HaveCome, IsAskedToSync, IsServed, IsSynced, IsUnsynced, Told, ToldBefore, ToldMost, Untold, most_lines}
use Rattle.lsm_serve.proofs.AnsweringLaws.{answers-more, answers_kept, text-more}

-- these lines are the first of an input, and this is left of it
abbrev pub IsLeft : Option (List ℕ) → List (List ℕ) → Option (List ℕ) → Type 0
IsLeft input lines left = All HasNoNewline lines × Consumes input left (lines_text lines)

-- Lines were answered so far, and the next one is of this number.
pub record IsServing (input left : Option (List ℕ)) (number : ℕ) (before now : StoreView) (output output_now : Option (List ℕ)) : Type 0 where
  pub lines : List (List ℕ)
  pub answers : List Answered
  pub serves : AnswersLines before lines answers now
  pub come : IsLeft input lines left
  pub told : Appends output output_now (answers_text 1 answers)
  pub next : number ≡ 1 + length answers

pub appends_none : (output : Option (List ℕ)) → Appends output output []
appends_none None = tt
appends_none (Some xs) = sym (append-nil xs)

pub appends_more : (a b c : Option (List ℕ)) (first second : List ℕ) → Appends a b first → Appends b c second → Appends a c (first ++ second)
appends_more None b c first second h k = tt
appends_more (Some xs) None c first second h k = absurd h
appends_more (Some xs) (Some ys) None first second h k = absurd k
appends_more (Some xs) (Some ys) (Some zs) first second h k = k ∙ ap (λ (l : List ℕ). l ++ second) h ∙ append_assoc xs first second

-- at its begin
pub serving-begins : (input : Option (List ℕ)) (s : StoreView) (output : Option (List ℕ)) → IsServing input input 1 s s output output
serving-begins input s output = record { lines = []; answers = []; serves = refl; come = (All-nil HasNoNewline, Consumes-nil input); told = appends_none output; next = refl }

-- ---- the lines

lines_text-more : (lines : List (List ℕ)) (line : List ℕ) → lines_text (lines ++ line ∷ []) ≡ lines_text lines ++ (line ++ 10 ∷ [])
lines_text-more [] line = refl
lines_text-more (first ∷ lines) line =
    ap (λ (l : List ℕ). first ++ 10 ∷ l) (lines_text-more lines line) ∙ sym (append_assoc first (10 ∷ lines_text lines) (line ++ 10 ∷ []))

left-more : (input left after : Option (List ℕ)) (lines : List (List ℕ)) (line : List ℕ) → IsLeft input lines left → HasNoNewline line → Consumes left after (line ++ 10 ∷ [])
    → IsLeft input (lines ++ line ∷ []) after
left-more input left after lines line (none, come) whole takes = (
  All-push HasNoNewline lines line none whole,
  subst (Consumes input after) (sym (lines_text-more lines line)) (Consumes-trans input left after (lines_text lines) (line ++ 10 ∷ []) come takes),
)

left-first : (input left : Option (List ℕ)) (lines : List (List ℕ)) → IsLeft input lines left → AreFirst input lines
left-first input left lines (none, come) = (none, by input left come)
  where
    by : (o l : Option (List ℕ)) → Consumes o l (lines_text lines) → IfSome o (λ all. (rest : List ℕ) × (all ≡ lines_text lines ++ rest))
    by None l takes = tt
    by (Some all) None takes = absurd takes
    by (Some all) (Some rest) takes = (rest, takes)

left-all : (input left : Option (List ℕ)) (lines : List (List ℕ)) → IsLeft input lines left → IfSome left (λ text. text ≡ []) → AreAll input lines
left-all input left lines (none, come) end = (none, by input left come end)
  where
    by : (o l : Option (List ℕ)) → Consumes o l (lines_text lines) → IfSome l (λ text. text ≡ []) → IfSome o (λ all. all ≡ lines_text lines)
    by None l takes e = tt
    by (Some all) None takes e = absurd takes
    by (Some all) (Some rest) takes e = takes ∙ ap (λ (l : List ℕ). lines_text lines ++ l) e ∙ append-nil (lines_text lines)

-- ---- a line more

module _ (input left after : Option (List ℕ)) (number : ℕ) (before now new : StoreView) (output output_now : Option (List ℕ)) (kept : List ℕ) (answered : Answered) where
  pub serving-more : (found : Bool) (output_new : Option (List ℕ)) (next : ℕ) → next ≡ number + 1 → found ≡ true → IsServing input left number before now output output_now
      → TakesLine left found kept after → AnswersLine now kept answered new → Appends output_now output_new (answer_text number answered)
      → IsServing input after next before new output output_new
  serving-more false output_new next is none s takes answers appends = absurd (true≢false (sym none))
  serving-more true output_new next is found s (line, whole, cut, come) answers appends = record {
    lines = s.lines ++ line ∷ [];
    answers = s.answers ++ answered ∷ [];
    serves = answers-more s.lines s.answers before now new line answered s.serves (answers_kept now new line kept answered cut answers);
    come = left-more input left after s.lines line s.come whole come;
    told = subst (Appends output output_new) (sym (text-more 1 s.answers answered number s.next)) (appends_more output output_now output_new _ _ s.told appends);
    next =
        let size : length (s.answers ++ answered ∷ []) ≡ length s.answers + 1 = length-append s.answers (answered ∷ []) in
        omega (arith, is, s.next, size);
  }

  -- an answer that was not told
  pub serving-untold : (found : Bool) (output_new : Option (List ℕ)) (fault : ProgramError) → found ≡ true → IsServing input left number before now output output_now
      → TakesLine left found kept after → AnswersLine now kept answered new → Untold (reason_of fault) output_now output_new
      → (s : AreServed input (Err fault) before new output output_new) × (1 ≤ length s.lines)
  serving-untold false output_new fault none s takes answers untold = absurd (true≢false (sym none))
  serving-untold true output_new fault found s (line, whole, cut, come) answers untold = (
    record {
      lines = s.lines ++ line ∷ [];
      answers = s.answers ++ answered ∷ [];
      serves = answers-more s.lines s.answers before now new line answered s.serves (answers_kept now new line kept answered cut answers);
      come = left-first input after (s.lines ++ line ∷ []) (left-more input left after s.lines line s.come whole come);
      told = by (reason_of fault) untold;
      may = why (reason_of fault) untold;
    },
    one,
  )
    where
      one : 1 ≤ length (s.lines ++ line ∷ [])
      one =
          let size : length (s.lines ++ line ∷ []) ≡ length s.lines + 1 = length-append s.lines (line ∷ []) in
          omega (arith, size)

      why : (reason : Reason) → Untold reason output_now output_new → EndsEarly reason (s.lines ++ line ∷ [])
      why (refusal r) (none, same) = inl none
      why unwritten t = one
      why mistake none = absurd none
      why (unopened cause) none = absurd none
      why unread none = absurd none

      by : (reason : Reason) → Untold reason output_now output_new → ToldBefore reason (s.answers ++ answered ∷ []) output output_new
      by (refusal r) (none, same) = record {
        told = s.answers;
        untold = answered ∷ [];
        all = refl;
        few = omega arith;
        appends = subst (λ (o : Option (List ℕ)). Appends output o (answers_text 1 s.answers)) (sym same) s.told;
      }
      by unwritten t = tt
      by mistake none = absurd none
      by (unopened cause) none = absurd none
      by unread none = absurd none

-- ---- its end

pub serving-ends : (input left after : Option (List ℕ)) (number : ℕ) (before now : StoreView) (output output_now : Option (List ℕ)) (kept : List ℕ) (found : Bool) → found ≡ false
    → IsServing input left number before now output output_now → TakesLine left found kept after → AreServed input (Ok tt) before now output output_now
serving-ends input left after number before now output output_now kept true none s takes = absurd (true≢false none)
serving-ends input left after number before now output output_now kept false none s takes = record {
  lines = s.lines;
  answers = s.answers;
  serves = s.serves;
  come = left-all input left s.lines s.come takes;
  told = s.told;
  may = tt;
}

-- all answers were told
told-all : (answers : List Answered) (output output_now : Option (List ℕ)) → Appends output output_now (answers_text 1 answers) → ToldMost answers output output_now
told-all answers output output_now appends = record { told = answers; untold = []; all = sym (append-nil answers); few = omega arith; appends = appends }

-- a fault of the input
told_before : (reason : Reason) (answers : List Answered) (output output_now : Option (List ℕ)) → Appends output output_now (answers_text 1 answers) → IsInputFault reason
    → ToldBefore reason answers output output_now
told_before reason answers output output_now appends (inl e) = subst (λ (r : Reason). ToldBefore r answers output output_now) (sym e) appends
told_before reason answers output output_now appends (inr e) = subst (λ (r : Reason). ToldBefore r answers output output_now) (sym e) (told-all answers output output_now appends)

ends_early : (reason : Reason) (lines : List (List ℕ)) → IsInputFault reason → EndsEarly reason lines
ends_early reason lines (inl e) = subst (λ (r : Reason). EndsEarly r lines) (sym e) tt
ends_early reason lines (inr e) = subst (λ (r : Reason). EndsEarly r lines) (sym e) (inl refl)

pub serving-fails : (input left : Option (List ℕ)) (number : ℕ) (before now : StoreView) (output output_now : Option (List ℕ)) (fault : ProgramError)
    → IsServing input left number before now output output_now → IsInputFault (reason_of fault) → AreServed input (Err fault) before now output output_now
serving-fails input left number before now output output_now fault s is = record {
  lines = s.lines;
  answers = s.answers;
  serves = s.serves;
  come = left-first input left s.lines s.come;
  told = told_before (reason_of fault) s.answers output output_now s.told is;
  may = ends_early (reason_of fault) s.lines is;
}

-- there is no number for one more line
as_many : (lines : List (List ℕ)) (answers : List Answered) (before after : StoreView) → AnswersLines before lines answers after → length lines ≡ length answers
as_many [] [] before after same = refl
as_many (line ∷ lines) (answered ∷ answers) before after (mid, first, rest) = ap suc (as_many lines answers mid after rest)
as_many [] (answered ∷ answers) before after none = absurd none
as_many (line ∷ lines) [] before after none = absurd none

pub serving-exhausts : (input left : Option (List ℕ)) (number : ℕ) (before now : StoreView) (output output_now : Option (List ℕ)) (fault : ProgramError)
    → IsServing input left number before now output output_now → reason_of fault ≡ refusal Exhausted → number ≡ 18446744073709551615
    → AreServed input (Err fault) before now output output_now
serving-exhausts input left number before now output output_now fault s is last = record {
  lines = s.lines;
  answers = s.answers;
  serves = s.serves;
  come = left-first input left s.lines s.come;
  told = subst (λ (r : Reason). ToldBefore r s.answers output output_now) (sym is) (told-all s.answers output output_now s.told);
  may =
      let most : length s.lines ≡ most_lines = omega (arith, as_many s.lines s.answers before now s.serves, s.next, last) in
      subst (λ (r : Reason). EndsEarly r s.lines) (sym is) (inr (refl, most));
}

-- ---- a store that was served

-- however a sync ends, it was asked for
sync_asked : (ended : Result (Unit {0}) ProgramError) (last after : StoreView) → MatchResult ended (λ _. IsSynced last after) (λ e. IsUnsynced e last after) → IsAskedToSync last after
sync_asked (Ok done) last after synced = (synced.reply, synced.serves)
sync_asked (Err fault) last after unsynced = (Refused unsynced.r, unsynced.serves)

pub served-fails : (input : Option (List ℕ)) (fault : ProgramError) (before last after : StoreView) (output output_now : Option (List ℕ))
    → AreServed input (Err fault) before last output output_now → IsAskedToSync last after → IsServed input (Err fault) before after output output_now
served-fails input fault before last after output output_now s asked =
    record { lines = s.lines; answers = s.answers; last = last; serves = s.serves; come = s.come; told = s.told; ends = inl (asked, s.may) }

pub served-synced : (input : Option (List ℕ)) (before last after : StoreView) (output output_now : Option (List ℕ))
    → AreServed input (Ok tt) before last output output_now → IsSynced last after → IsServed input (Ok tt) before after output output_now
served-synced input before last after output output_now s synced =
    record { lines = s.lines; answers = s.answers; last = last; serves = s.serves; come = s.come; told = s.told; ends = synced }

first_of_all : (input : Option (List ℕ)) (lines : List (List ℕ)) → AreAll input lines → AreFirst input lines
first_of_all input lines (none, all) = (none, by input all)
  where
    by : (o : Option (List ℕ)) → IfSome o (λ text. text ≡ lines_text lines) → IfSome o (λ text. (rest : List ℕ) × (text ≡ lines_text lines ++ rest))
    by None is = tt
    by (Some text) is = ([], is ∙ sym (append-nil (lines_text lines)))

pub served-unsynced : (input : Option (List ℕ)) (fault : ProgramError) (before last after : StoreView) (output output_now : Option (List ℕ))
    → AreServed input (Ok tt) before last output output_now → IsUnsynced fault last after → IsServed input (Err fault) before after output output_now
served-unsynced input fault before last after output output_now s unsynced = record {
  lines = s.lines;
  answers = s.answers;
  last = last;
  serves = s.serves;
  come = first_of_all input s.lines s.come;
  told = subst (λ (r : Reason). ToldBefore r s.answers output output_now) (sym unsynced.reason) (told-all s.answers output output_now s.told);
  ends = inr (record { all = s.come; told = s.told; unsynced = unsynced });
}

pub served-when : (input : Option (List ℕ)) (answered ended : Result (Unit {0}) ProgramError) (before last after : StoreView) (output output_now : Option (List ℕ)) → answered ≡ Ok tt
    → AreServed input answered before last output output_now → MatchResult ended (λ _. IsSynced last after) (λ e. IsUnsynced e last after)
    → IsServed input ended before after output output_now
served-when input answered (Ok done) before last after output output_now is s synced =
    served-synced input before last after output output_now (subst (λ (r : Result (Unit {0}) ProgramError). AreServed input r before last output output_now) is s) synced
served-when input answered (Err fault) before last after output output_now is s unsynced =
    served-unsynced input fault before last after output output_now (subst (λ (r : Result (Unit {0}) ProgramError). AreServed input r before last output output_now) is s) unsynced

-- ---- the end of a store

pub synced-done : (r : Result (Unit {0}) Refusal) (before after : StoreView) → Serves before Sync (reply_of (λ _. Done) r) after → r ≡ Ok tt → IsSynced before after
synced-done r before after serves is = record { reply = Done; serves = subst (λ (x : Result (Unit {0}) Refusal). Serves before Sync (reply_of (λ _. Done) x) after) is serves; synced = inl refl }

pub synced-stopped : (r : Result (Unit {0}) Refusal) (before after : StoreView) → Serves before Sync (reply_of (λ _. Done) r) after → r ≡ Err Stopped → IsSynced before after
synced-stopped r before after serves is =
    record { reply = Refused Stopped; serves = subst (λ (x : Result (Unit {0}) Refusal). Serves before Sync (reply_of (λ _. Done) x) after) is serves; synced = inr refl }

pub served-fails-when : (input : Option (List ℕ)) (answered ended : Result (Unit {0}) ProgramError) (fault : ProgramError) (before last after : StoreView) (output output_now : Option (List ℕ))
    → answered ≡ Err fault → AreServed input answered before last output output_now → MatchResult ended (λ _. IsSynced last after) (λ e. IsUnsynced e last after)
    → IsServed input (Err fault) before after output output_now
served-fails-when input answered ended fault before last after output output_now is s synced =
    served-fails input fault before last after output output_now (subst (λ (r : Result (Unit {0}) ProgramError). AreServed input r before last output output_now) is s)
    (sync_asked ended last after synced)

-- ---- answers that are held

-- what is held is written, and nothing is held then
pub held-written : (output output_after : Option (List ℕ)) (held : List ℕ) → Appends output output_after held → KeepsHeld output held output_after []
held-written None output_after held appends = tt
held-written (Some xs) None held appends = absurd appends
held-written (Some xs) (Some ys) held appends = append-nil ys ∙ appends

-- nothing was written
pub held-same : (output : Option (List ℕ)) (held : List ℕ) → KeepsHeld output held output held
held-same None held = tt
held-same (Some xs) held = refl

-- one answer more is held
holds_more : (output : Option (List ℕ)) (held longer text : List ℕ) → longer ≡ held ++ text → Appends (append_known output held) (append_known output longer) text
holds_more None held longer text is = tt
holds_more (Some xs) held longer text is = ap (λ (l : List ℕ). xs ++ l) is ∙ sym (append_assoc xs held text)

none_held : (output : Option (List ℕ)) → append_known output [] ≡ output
none_held None = refl
none_held (Some xs) = ap Some (append-nil xs)

-- Lines were answered so far, in an output and in what is held, and the next one is of this number. Nothing is held before the first.
pub record IsHolding (input left : Option (List ℕ)) (number : ℕ) (before now : StoreView) (output output_now : Option (List ℕ)) (held : List ℕ) : Type 0 where
  pub serving : IsServing input left number before now output (append_known output_now held)
  pub some : (held ≡ []) ⊎ (2 ≤ number)

pub holding-begins : (input : Option (List ℕ)) (s : StoreView) (output : Option (List ℕ)) (held : List ℕ) → held ≡ [] → IsHolding input input 1 s s output output held
holding-begins input s output held none = record {
  serving = subst (λ (o : Option (List ℕ)). IsServing input input 1 s s output o) (sym (ap (append_known output) none ∙ none_held output)) (serving-begins input s output);
  some = inl none;
}

-- lines were answered where answers are held
some_lines : (lines : List (List ℕ)) (answers : List Answered) (before now : StoreView) (number : ℕ) (held : List ℕ) → AnswersLines before lines answers now → number ≡ 1 + length answers
    → (held ≡ []) ⊎ (2 ≤ number) → (held ≡ []) ⊎ (1 ≤ length lines)
some_lines lines answers before now number held serves is (inl none) = inl none
some_lines lines answers before now number held serves is (inr more) = inr (omega (arith, as_many lines answers before now serves, is, more))

module _ (input left after : Option (List ℕ)) (number : ℕ) (before now new : StoreView) (output output_now : Option (List ℕ)) (held kept : List ℕ) (found : Bool) (answered : Answered)
    (some : found ≡ true) (h : IsHolding input left number before now output output_now held) (takes : TakesLine left found kept after) (answers : AnswersLine now kept answered new) where
  -- a line more
  pub holding-more : (longer : List ℕ) (output_new : Option (List ℕ)) (held_new : List ℕ) (next : ℕ) → next ≡ number + 1 → longer ≡ held ++ answer_text number answered
      → KeepsHeld output_now longer output_new held_new → IsHolding input after next before new output output_new held_new
  holding-more longer output_new held_new next is more keeps = record {
    serving =
        serving-more input left after number before now new output (append_known output_now held) kept answered found (append_known output_new held_new) next is some h.serving takes answers
        (Appends-kept _ _ _ _ (holds_more output_now held longer (answer_text number answered) more) keeps);
    some = inr (omega (arith, is, h.serving.next));
  }

  -- an answer for which there was no memory
  pub held-untold : (fault : ProgramError) (same : List ℕ) → reason_of fault ≡ refusal NoMemory → same ≡ held → AreHeld input (Err fault) before new output output_now same
  held-untold fault same is kept_same =
      let o = append_known output_now same in
      let as_held : o ≡ append_known output_now held = ap (append_known output_now) kept_same in
      let s = serving-untold input left after number before now new output (append_known output_now held) kept answered found o fault some h.serving takes answers
      (subst (λ (r : Reason). Untold r (append_known output_now held) o) (sym is) (refl, as_held)) in
      record { served = s.0; some = inr s.1 }

  -- what is held can't be written
  pub held-unwritten : (fault : ProgramError) (output_new : Option (List ℕ)) (held_new : List ℕ) → reason_of fault ≡ unwritten → AreHeld input (Err fault) before new output output_new held_new
  held-unwritten fault output_new held_new is =
      let o = append_known output_new held_new in
      let s = serving-untold input left after number before now new output (append_known output_now held) kept answered found o fault some h.serving takes answers
      (subst (λ (r : Reason). Untold r (append_known output_now held) o) (sym is) tt) in
      record { served = s.0; some = inr s.1 }

-- ---- the end of the lines

module _ (input left : Option (List ℕ)) (number : ℕ) (before now : StoreView) (output output_now : Option (List ℕ)) (held : List ℕ) (h : IsHolding input left number before now output output_now held) where
  held_some : (held ≡ []) ⊎ (1 ≤ length h.serving.lines)
  held_some = some_lines h.serving.lines h.serving.answers before now number held h.serving.serves h.serving.next h.some

  pub holding-ends : (after : Option (List ℕ)) (kept : List ℕ) (found : Bool) → found ≡ false → TakesLine left found kept after → AreHeld input (Ok tt) before now output output_now held
  unfolding serving-ends
  holding-ends after kept true none takes = absurd (true≢false none)
  holding-ends after kept false none takes = record {
    served = serving-ends input left after number before now output (append_known output_now held) kept false none h.serving takes;
    some = held_some;
  }

  pub holding-fails : (fault : ProgramError) → IsInputFault (reason_of fault) → AreHeld input (Err fault) before now output output_now held
  unfolding serving-fails
  holding-fails fault is = record { served = serving-fails input left number before now output (append_known output_now held) fault h.serving is; some = held_some }

  pub holding-exhausts : (fault : ProgramError) → reason_of fault ≡ refusal Exhausted → number ≡ 18446744073709551615 → AreHeld input (Err fault) before now output output_now held
  unfolding serving-exhausts
  holding-exhausts fault is last = record { served = serving-exhausts input left number before now output (append_known output_now held) fault h.serving is last; some = held_some }

-- ---- all that is held is written

told_written : (reason : Reason) (answers : List Answered) (output output_now output_after : Option (List ℕ)) → ToldBefore reason answers output output_now → Keeps output_now output_after
    → ToldBefore reason answers output output_after
told_written (refusal r) answers output output_now output_after told keeps =
    record { told = told.told; untold = told.untold; all = told.all; few = told.few; appends = Appends-kept _ _ _ _ told.appends keeps }
told_written unread answers output output_now output_after told keeps = Appends-kept _ _ _ _ told keeps
told_written unwritten answers output output_now output_after told keeps = tt
told_written mistake answers output output_now output_after told keeps = absurd told
told_written (unopened cause) answers output output_now output_after told keeps = absurd told

all_written : (result : Result (Unit {0}) ProgramError) (answers : List Answered) (output output_now output_after : Option (List ℕ)) → Told result answers output output_now → Keeps output_now output_after
    → Told result answers output output_after
all_written (Ok done) answers output output_now output_after told keeps = Appends-kept _ _ _ _ told keeps
all_written (Err fault) answers output output_now output_after told keeps = told_written (reason_of fault) answers output output_now output_after told keeps

pub served-written : (input : Option (List ℕ)) (result : Result (Unit {0}) ProgramError) (before after : StoreView) (output output_now output_after : Option (List ℕ)) (held : List ℕ)
    → AreHeld input result before after output output_now held → KeepsHeld output_now held output_after [] → AreServed input result before after output output_after
served-written input result before after output output_now output_after held h keeps =
    let s = h.served in
    record {
      lines = s.lines;
      answers = s.answers;
      serves = s.serves;
      come = s.come;
      told = all_written result s.answers output (append_known output_now held) output_after s.told (subst (Keeps (append_known output_now held)) (none_held output_after) keeps);
      may = s.may;
    }

first_lines : (result : Result (Unit {0}) ProgramError) (input : Option (List ℕ)) (lines : List (List ℕ)) → HaveCome result input lines → AreFirst input lines
first_lines (Ok done) input lines come = first_of_all input lines come
first_lines (Err fault) input lines come = come

-- it can't be written
unwritten_told : (reason : Reason) (answers : List Answered) (output output_after : Option (List ℕ)) → reason ≡ unwritten → ToldBefore reason answers output output_after
unwritten_told reason answers output output_after is = subst (λ (r : Reason). ToldBefore r answers output output_after) (sym is) tt

pub served-unwritten : (input : Option (List ℕ)) (result : Result (Unit {0}) ProgramError) (fault : ProgramError) (before after : StoreView) (output output_now output_after : Option (List ℕ)) (held : List ℕ)
    → AreHeld input result before after output output_now held → reason_of fault ≡ unwritten → 1 ≤ length held → AreServed input (Err fault) before after output output_after
served-unwritten input result fault before after output output_now output_after held h is some =
    let s = h.served in
    record {
      lines = s.lines;
      answers = s.answers;
      serves = s.serves;
      come = first_lines result input s.lines s.come;
      told = unwritten_told (reason_of fault) s.answers output output_after is;
      may = subst (λ (r : Reason). EndsEarly r s.lines) (sym is) (by h.some);
    }
  where
    by : (held ≡ []) ⊎ (1 ≤ length h.served.lines) → 1 ≤ length h.served.lines
    by (inl none) = absurd (omega (arith, some, ap length none))
    by (inr one) = one

abbrev is_done : Result (Unit {0}) ProgramError → Bool
is_done (Ok done) = true
is_done (Err e) = false

-- it could not be written before
pub served-unwritten_before : (input : Option (List ℕ)) (result : Result (Unit {0}) ProgramError) (fault : ProgramError) (before after : StoreView) (output output_now : Option (List ℕ)) (held : List ℕ)
    → result ≡ Err fault → AreHeld input result before after output output_now held → reason_of fault ≡ unwritten → AreServed input result before after output output_now
served-unwritten_before input (Ok done) fault before after output output_now held failed h is = absurd (true≢false (ap is_done failed))
served-unwritten_before input (Err other) fault before after output output_now held failed h is =
    let s = h.served in
    record {
      lines = s.lines;
      answers = s.answers;
      serves = s.serves;
      come = s.come;
      told = unwritten_told (reason_of other) s.answers output output_now (same ∙ is);
      may = s.may;
    }
  where
    same : reason_of other ≡ reason_of fault
    same = let e : other ≡ fault = cc in ap reason_of e

-- ---- what is written of what is held

-- nothing is held
pub held-none : (output : Option (List ℕ)) (held : List ℕ) (count : ℕ) (is : Bool) → count ≡ length held → is ≡ (count == 0) → is ≡ true → KeepsHeld output held output [] × (held ≡ [])
held-none output [] count is size asked full = (held-same output [], refl)
held-none output (x ∷ xs) count is size asked full = absurd (true≢false (sym full ∙ asked ∙ ne_eqb count 0 (λ e. absurd (omega (arith, size, e)))))

-- something is
pub held-some : (held : List ℕ) (count : ℕ) (is : Bool) → count ≡ length held → is ≡ (count == 0) → is ≡ false → 1 ≤ length held
held-some [] count is size asked empty = absurd (true≢false (sym (ap (λ (n : ℕ). n == 0) size) ∙ sym asked ∙ empty))
held-some (x ∷ xs) count is size asked empty = omega arith

-- where that was tried
pub unless-written : (r : Result (Unit {0}) ProgramError) (output output_after : Option (List ℕ)) (held held_after : List ℕ)
    → MatchResult r (λ _. KeepsHeld output held output_after [] × (held_after ≡ [])) (λ e. (reason_of e ≡ unwritten) × (1 ≤ length held))
    → MatchResult r (λ _. KeepsHeld output held output_after held_after) (λ e. reason_of e ≡ unwritten)
unless-written (Ok done) output output_after held held_after (keeps, none) = subst (KeepsHeld output held output_after) (sym none) keeps
unless-written (Err e) output output_after held held_after (is, some) = is
