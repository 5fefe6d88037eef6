-- How a line is read.
use Rattle.std.proofs.Common.{◌≡◌, ◌≢◌, ◌∙◌, ◌+◌, ◌<◌, ◌≤◌, ◌⊎◌, min, arith, ℕ, zero, suc, Bool, true, List, [], ◌∷◌, ◌++◌, append_assoc, length, take, take_all, Option, Some, None, Result, Ok, Err, inl, inr, refl, sym, ap, subst}
use Rattle.std.proofs.lemmas.Bool.{cases_lt}
use Rattle.std.proofs.lemmas.List.Elements.{All-append, All-nil}
use Rattle.std.proofs.KnownBytes.{Consumes-kept, Consumes-nil, Consumes-trans}
use Rattle.std.specs.Prelude.{IfOk, IfSome, is_some, slice_index}
use Rattle.std.specs.Io.KnownBytes.{Consumes, Keeps}
use Rattle.std.proofs.Math.Seq.{take-nil}
use Rattle.std.proofs.lemmas.List.{length-take, take_more}
use Rattle.lsm_language.specs.declared.program_error.ProgramError.{ProgramError}
use Rattle.lsm_serve.specs.Reading.{HasNoNewline, TakesLine, most_kept}

-- `begun` was read of a line, and its first bytes were kept, up to the most.
pub record IsReading (before : Option (List ℕ)) (kept : List ℕ) (left : Option (List ℕ)) : Type 0 where
  pub begun : List ℕ
  pub whole : HasNoNewline begun
  pub cut : kept ≡ take most_kept begun
  pub reads : Consumes before left begun

pub take-min : (n : ℕ) (xs : List ℕ) → take (min n (length xs)) xs ≡ take n xs
take-min n xs = by (cases_lt n (length xs))
  where
    by : (n < length xs) ⊎ (length xs ≤ n) → take (min n (length xs)) xs ≡ take n xs
    by (inl lt) = ap (λ (k : ℕ). take k xs) (omega (arith, lt))
    by (inr le) =
        let all : min n (length xs) ≡ length xs = omega (arith, le) in
        ap (λ (k : ℕ). take k xs) all ∙ take_all (length xs) xs (omega arith) ∙ sym (take_all n xs le)

-- a list that was cut, and added to
take-take_append : (n : ℕ) (xs ys : List ℕ) → take n (take n xs ++ ys) ≡ take n (xs ++ ys)
take-take_append zero xs ys = refl
take-take_append (suc n) [] ys = refl
take-take_append (suc n) (x ∷ xs) ys = ap (λ (l : List ℕ). x ∷ l) (take-take_append n xs ys)

pub take-short : (n : ℕ) (xs : List ℕ) → length xs ≤ n → take n xs ≡ xs
take-short n [] le = take-nil n
take-short zero (x ∷ xs) le = absurd (omega (arith, le))
take-short (suc n) (x ∷ xs) le = ap (λ (l : List ℕ). x ∷ l) (take-short n xs (omega (arith, le)))

-- a part is kept, or the first of it
pub kept_more : (most room : ℕ) (line part longer : List ℕ) → length line ≤ most → room + length line ≡ most → longer ≡ line ++ take (min room (length part)) part
    → longer ≡ take most (line ++ part)
kept_more most room line part longer le is kept = kept ∙ by most line le is
  where
    shorter : (n : ℕ) (xs : List ℕ) → take (min n (length xs)) xs ≡ take n xs
    shorter n xs = take-min n xs

    by : (most : ℕ) (line : List ℕ) → length line ≤ most → room + length line ≡ most → line ++ take (min room (length part)) part ≡ take most (line ++ part)
    by most [] le is = let same : room ≡ most = omega (arith, is) in shorter room part ∙ ap (λ (n : ℕ). take n part) same
    by zero (x ∷ xs) le is = absurd (omega (arith, le))
    by (suc most) (x ∷ xs) le is = ap (λ (l : List ℕ). x ∷ l) (by most xs (omega (arith, le)) (omega (arith, is)))

pub few_kept : (line begun : List ℕ) → line ≡ take most_kept begun → length line ≤ most_kept
few_kept line begun is = rw is (rw (length-take most_kept begun) (omega arith))

-- nothing is kept of nothing alone
none_begun : (n : ℕ) (kept begun : List ℕ) → 0 < n → kept ≡ take n begun → length kept ≡ 0 → begun ≡ []
none_begun n kept [] more is none = refl
none_begun zero kept (x ∷ xs) more is none = absurd (omega (arith, more))
none_begun (suc n) kept (x ∷ xs) more is none = absurd (omega (arith, none, ap (λ (l : List ℕ). length l) is))

-- a line with its newline was shown
pub newline_taken : (xs : List ℕ) (n : ℕ) → n < length xs → slice_index xs n ≡ 10 → take (n + 1) xs ≡ take n xs ++ 10 ∷ []
newline_taken xs n lt is = take_more xs n 0 lt ∙ ap (λ (b : ℕ). take n xs ++ b ∷ []) is

-- at its begin
pub reading-begins : (before : Option (List ℕ)) (kept : List ℕ) → kept ≡ [] → IsReading before kept before
reading-begins before kept none = record { begun = []; whole = All-nil (λ (x : ℕ). x ≢ 10); cut = none ∙ sym (take-nil most_kept); reads = Consumes-nil before }

-- what is kept of a line, and of a part after it
cut_more : (kept longer begun part : List ℕ) → kept ≡ take most_kept begun → longer ≡ take most_kept (kept ++ part) → longer ≡ take most_kept (begun ++ part)
cut_more kept longer begun part cut is = is ∙ ap (λ (l : List ℕ). take most_kept (l ++ part)) cut ∙ take-take_append most_kept begun part

-- a part that ends no line
pub reading-more : (before left after : Option (List ℕ)) (kept longer part : List ℕ) → IsReading before kept left → HasNoNewline part → longer ≡ take most_kept (kept ++ part)
    → Consumes left after part → IsReading before longer after
reading-more before left after kept longer part r none is takes = record {
  begun = r.begun ++ part;
  whole = All-append (λ (x : ℕ). x ≢ 10) r.begun part r.whole none;
  cut = cut_more kept longer r.begun part r.cut is;
  reads = Consumes-trans before left after r.begun part r.reads takes;
}

-- one that ends it
pub reading-line : (before left after : Option (List ℕ)) (kept longer part : List ℕ) → IsReading before kept left → HasNoNewline part → longer ≡ take most_kept (kept ++ part)
    → Consumes left after (part ++ 10 ∷ []) → TakesLine before true longer after
reading-line before left after kept longer part r none is takes = (
  r.begun ++ part,
  All-append (λ (x : ℕ). x ≢ 10) r.begun part r.whole none,
  cut_more kept longer r.begun part r.cut is,
  subst (Consumes before after) (sym (append_assoc r.begun part (10 ∷ []))) (Consumes-trans before left after r.begun (part ++ 10 ∷ []) r.reads takes),
)

-- nothing was begun, and nothing is left
none_left : (before left : Option (List ℕ)) (begun : List ℕ) → begun ≡ [] → Consumes before left begun → IfSome left (λ text. text ≡ []) → IfSome before (λ text. text ≡ [])
none_left None left begun none takes end = tt
none_left (Some all) None begun none takes end = absurd takes
none_left (Some all) (Some text) begun none takes end = takes ∙ ap (λ (l : List ℕ). l ++ text) none ∙ end

-- the end of the input
pub reading-end : (before left after : Option (List ℕ)) (read kept shown : List ℕ) (r : Result (Option Bool) ProgramError) → IsReading before read left
    → (kept ≡ read) × IfSome left (λ text. text ≡ []) × Keeps left after → shown ≡ kept → IfOk r (λ found. (found ≡ None) × (length shown ≡ 0))
    → IfOk r (λ found. TakesLine before (is_some found) kept after)
reading-end before left after read kept shown (Err e) reading ended is none = tt
reading-end before left after read kept shown (Ok found) reading (same, end, keeps) is (nothing, empty) =
    let begun : reading.begun ≡ [] = none_begun most_kept kept reading.begun (omega arith) (same ∙ reading.cut) (ap (λ (l : List ℕ). length l) (sym is) ∙ empty) in
    subst (λ (f : Option Bool). TakesLine before (is_some f) kept after) (sym nothing) (none_left before left reading.begun begun reading.reads end)

-- or nothing was read
pub reading-same : (before left after : Option (List ℕ)) (kept same : List ℕ) → IsReading before kept left → (same ≡ kept) × Keeps left after → IsReading before same after
reading-same before left after kept same r (is, keeps) =
    record { begun = r.begun; whole = r.whole; cut = is ∙ r.cut; reads = Consumes-kept before left after r.begun r.reads keeps }
