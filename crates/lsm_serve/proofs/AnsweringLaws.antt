-- What a line is answered of which not all was kept.
use Rattle.std.proofs.Common.{◌≡◌, ◌∙◌, ◌+◌, ◌≤◌, ℕ, suc, Bool, true, false, List, [], ◌∷◌, ◌++◌, length, take, refl, sym, ap, subst, arith, inl, inr, ltb-true, ltb-false, lt-ltb}
use Rattle.std.specs.Prelude.{nat_lt}
use Rattle.std.proofs.lemmas.List.{length-take-le}
use Rattle.lsm_store.specs.Backing.{StoreView}
use Rattle.lsm_serve.proofs.ReadingLaws.{take-short}
use Rattle.lsm_serve.specs.Asking.{Meaning, meaning_of}
use Rattle.lsm_serve.specs.Reading.{most_bytes, most_kept}
use Rattle.lsm_serve.specs.Answering.{Answered, Answers, AnswersLine, AnswersLines, AnswersUntagged, Outcome, answer_text, answers_text}
use Rattle.lsm_serve.specs.Tagging.{tag_in}
use Rattle.lsm_serve.proofs.TaggingLaws.{tag_kept}

-- ---- a line that is too long is seen to be

over : (most : ℕ) (line : List ℕ) → nat_lt most (length line) ≡ true → nat_lt most (length (take (most + 1) line)) ≡ true
over most line is =
    let long : most + 1 ≤ length line = omega (arith, ltb-true most (length line) is) in
    let size : length (take (most + 1) line) ≡ most + 1 = length-take-le (most + 1) line long in
    ap (nat_lt most) size ∙ lt-ltb most (most + 1) (omega arith)

short : (most : ℕ) (line : List ℕ) → nat_lt most (length line) ≡ false → length line ≤ most + 1
short most line is = omega (arith, ltb-false most (length line) is)

meaning_kept : (line : List ℕ) → meaning_of (take most_kept line) ≡ meaning_of line
meaning_kept line = by (nat_lt most_bytes (length line)) refl
  where
    by : (b : Bool) → nat_lt most_bytes (length line) ≡ b → meaning_of (take most_kept line) ≡ meaning_of line
    by true is = rw (over most_bytes line is, is) refl
    by false is = ap meaning_of (take-short most_kept line (short most_bytes line is))

untagged_kept : (before after : StoreView) (line kept : List ℕ) (outcome : Outcome) → kept ≡ take most_kept line → AnswersUntagged before kept outcome after → AnswersUntagged before line outcome after
untagged_kept before after line kept outcome cut (inl answers) = inl (subst (λ (m : Meaning). Answers m before outcome after) (ap meaning_of cut ∙ meaning_kept line) answers)
untagged_kept before after line kept outcome cut (inr none) = inr none

pub answers_kept : (before after : StoreView) (line kept : List ℕ) (answered : Answered) → kept ≡ take most_kept line → AnswersLine before kept answered after → AnswersLine before line answered after
answers_kept before after line kept answered cut (tag, answers) = (tag ∙ ap tag_in cut ∙ tag_kept most_kept line (omega arith), untagged_kept before after line kept answered.outcome cut answers)

-- the slice of a line is the line
pub answers_shown : (before after : StoreView) (line shown : List ℕ) (answered : Answered) → shown ≡ line → AnswersLine before shown answered after → AnswersLine before line answered after
answers_shown before after line shown answered is answers = subst (λ (l : List ℕ). AnswersLine before l answered after) is answers

-- ---- a line more

pub answers-more : (lines : List (List ℕ)) (answers : List Answered) (before mid after : StoreView) (line : List ℕ) (answered : Answered)
    → AnswersLines before lines answers mid → AnswersLine mid line answered after → AnswersLines before (lines ++ line ∷ []) (answers ++ answered ∷ []) after
answers-more [] [] before mid after line answered first second = (after, subst (λ (s : StoreView). AnswersLine s line answered after) first second, refl)
answers-more (l ∷ lines) (a ∷ answers) before mid after line answered (next, is, first) second = (next, is, answers-more lines answers next mid after line answered first second)
answers-more [] (a ∷ answers) before mid after line answered first second = absurd first
answers-more (l ∷ lines) [] before mid after line answered first second = absurd first

append_assoc_text : (a b c : List ℕ) → (a ++ b) ++ c ≡ a ++ (b ++ c)
append_assoc_text [] b c = refl
append_assoc_text (x ∷ a) b c = ap (λ (l : List ℕ). x ∷ l) (append_assoc_text a b c)

append_nothing : (a : List ℕ) → a ++ [] ≡ a
append_nothing [] = refl
append_nothing (x ∷ a) = ap (λ (l : List ℕ). x ∷ l) (append_nothing a)

pub text-more : (number : ℕ) (answers : List Answered) (answered : Answered) (next : ℕ) → next ≡ number + length answers
    → answers_text number (answers ++ answered ∷ []) ≡ answers_text number answers ++ answer_text next answered
text-more number [] answered next is =
    let same : number ≡ next = omega (arith, is) in
    append_nothing (answer_text number answered) ∙ ap (λ (n : ℕ). answer_text n answered) same
text-more number (a ∷ answers) answered next is =
    let behind : next ≡ suc number + length answers = omega (arith, is) in
    ap (λ (l : List ℕ). answer_text number a ++ l) (text-more (suc number) answers answered next behind)
    ∙ sym (append_assoc_text (answer_text number a) (answers_text (suc number) answers) (answer_text next answered))
