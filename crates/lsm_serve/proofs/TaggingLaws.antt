-- The tag of a line of which not all was kept.
use Rattle.std.proofs.Common.{◌≡◌, ◌∙◌, ◌+◌, ◌<◌, ◌≤◌, ◌⊎◌, ◌&&◌, ◌==◌, ℕ, zero, suc, Bool, true, false, true≢false, List, [], ◌∷◌, length, take, take-take, Option, Some, None, inl, inr, refl, sym, ap, arith}
use Rattle.std.specs.Prelude.{nat_lt, nat_le, IfSome}
use Rattle.std.specs.List.{list_all, position_from}
use Rattle.std.specs.Char.{is_ascii_digit}
use Rattle.std.proofs.lemmas.List.{length-take, length-take-le}
use Rattle.std.proofs.lemmas.Bool.Decides.{nat_tests}
use Rattle.lsm_serve.specs.Tagging.{are_digits, first_space, is_space, is_tag_word, size_at, tag_in, tag_size}

-- ---- the first place in a list

module _ (t : ℕ → Bool) where
  is_from : (i : ℕ) (xs : List ℕ) → IfSome (position_from t i xs) (λ p. i ≤ p)
  is_from i [] = tt
  is_from i (x ∷ xs) = by (t x) refl (is_from (i + 1) xs)
    where
      later : (o : Option ℕ) → IfSome o (λ p. i + 1 ≤ p) → IfSome o (λ p. i ≤ p)
      later None h = tt
      later (Some p) h = omega (arith, h)

      by : (b : Bool) → t x ≡ b → IfSome (position_from t (i + 1) xs) (λ p. i + 1 ≤ p) → IfSome (position_from t i (x ∷ xs)) (λ p. i ≤ p)
      by true is h = rw is (omega arith)
      by false is h = rw is (later (position_from t (i + 1) xs) h)

  is_within : (i : ℕ) (xs : List ℕ) → IfSome (position_from t i xs) (λ p. p < i + length xs)
  is_within i [] = tt
  is_within i (x ∷ xs) = by (t x) refl (is_within (i + 1) xs)
    where
      later : (o : Option ℕ) → IfSome o (λ p. p < i + 1 + length xs) → IfSome o (λ p. p < i + length (x ∷ xs))
      later None h = tt
      later (Some p) h = omega (arith, h)

      by : (b : Bool) → t x ≡ b → IfSome (position_from t (i + 1) xs) (λ p. p < i + 1 + length xs) → IfSome (position_from t i (x ∷ xs)) (λ p. p < i + length (x ∷ xs))
      by true is h = rw is (omega arith)
      by false is h = rw is (later (position_from t (i + 1) xs) h)

  -- of a list that was cut
  abbrev IsCut : ℕ → ℕ → List ℕ → Type 0
  IsCut i n xs = (position_from t i (take n xs) ≡ position_from t i xs) ⊎ ((position_from t i (take n xs) ≡ None) × IfSome (position_from t i xs) (λ p. i + n ≤ p))

  is_cut : (i n : ℕ) (xs : List ℕ) → IsCut i n xs
  is_cut i zero xs = inr (refl, far (position_from t i xs) (is_from i xs))
    where
      far : (o : Option ℕ) → IfSome o (λ p. i ≤ p) → IfSome o (λ p. i + 0 ≤ p)
      far None h = tt
      far (Some p) h = omega (arith, h)
  is_cut i (suc n) [] = inl refl
  is_cut i (suc n) (x ∷ xs) = by (t x) refl (is_cut (i + 1) n xs)
    where
      far : (o : Option ℕ) → IfSome o (λ p. i + 1 + n ≤ p) → IfSome o (λ p. i + suc n ≤ p)
      far None h = tt
      far (Some p) h = omega (arith, h)

      by : (b : Bool) → t x ≡ b → IsCut (i + 1) n xs → IsCut i (suc n) (x ∷ xs)
      by true is h = inl (rw is refl)
      by false is (inl same) = inl (rw is same)
      by false is (inr (none, over)) = inr (rw is none, rw is (far (position_from t (i + 1) xs) over))

-- ---- a tag

and_left : (a b : Bool) → (a && b) ≡ true → a ≡ true
and_left true b e = refl
and_left false b e = e

and_right : (a b : Bool) → (a && b) ≡ true → b ≡ true
and_right true b e = e
and_right false b e = absurd (true≢false (sym e))

at_most : (n most : ℕ) → nat_le n most ≡ true → n ≤ most
at_most n most e = grind (arith, nat_tests)

-- it is short
word_within : (word : List ℕ) → is_tag_word word ≡ true → length word ≤ 21
word_within [] e = omega arith
word_within (mark ∷ digits) e =
    let few : nat_le (length digits) 20 ≡ true = and_left (nat_le (length digits) 20) (list_all is_ascii_digit digits) (and_right (nat_lt 0 (length digits)) _ (and_right (mark == 35) (are_digits digits) e)) in
    omega (arith, at_most (length digits) 20 few)

long_word : (word : List ℕ) → 21 < length word → is_tag_word word ≡ false
long_word word long = by (is_tag_word word) refl
  where
    by : (b : Bool) → is_tag_word word ≡ b → is_tag_word word ≡ false
    by false is = is
    by true is = absurd (omega (arith, long, word_within word is))

size_within : (line : List ℕ) (o : Option ℕ) → IfSome o (λ p. p < 0 + length line) → size_at line o ≤ 22
size_within line None h = omega arith
size_within line (Some p) h = by (is_tag_word (take p line)) refl
  where
    by : (b : Bool) → is_tag_word (take p line) ≡ b → size_at line (Some p) ≤ 22
    by false is = rw is (omega arith)
    by true is = rw is (omega (arith, word_within (take p line) is, length-take-le p line (omega (arith, h))))

-- where its space was kept
size_near : (n : ℕ) (line : List ℕ) (o : Option ℕ) → IfSome o (λ p. p < 0 + length (take n line)) → size_at (take n line) o ≡ size_at line o
size_near n line None h = refl
size_near n line (Some p) h =
    let same : take p (take n line) ≡ take p line = take-take p n line (omega (arith, h, length-take n line)) in
    rw same refl

-- where it was not, there is none
size_far : (n : ℕ) (line : List ℕ) (o : Option ℕ) → 22 ≤ n → IfSome o (λ p. 0 + n ≤ p) → IfSome o (λ p. p < 0 + length line) → size_at line o ≡ 0
size_far n line None enough far h = refl
size_far n line (Some p) enough far h =
    let size : length (take p line) ≡ p = length-take-le p line (omega (arith, h)) in
    rw (long_word (take p line) (omega (arith, size, far, enough))) refl

size_kept : (n : ℕ) (line : List ℕ) → 22 ≤ n → tag_size (take n line) ≡ tag_size line
size_kept n line enough = by (is_cut is_space 0 n line)
  where
    by : IsCut is_space 0 n line → tag_size (take n line) ≡ tag_size line
    by (inl same) = size_near n line (first_space (take n line)) (is_within is_space 0 (take n line)) ∙ ap (size_at line) same
    by (inr (none, far)) = ap (size_at (take n line)) none ∙ sym (size_far n line (first_space line) enough far (is_within is_space 0 line))

pub tag_kept : (n : ℕ) (line : List ℕ) → 22 ≤ n → tag_in (take n line) ≡ tag_in line
tag_kept n line enough =
    ap (λ (k : ℕ). take k (take n line)) (size_kept n line enough)
    ∙ take-take (tag_size line) n line (omega (arith, size_within line (first_space line) (is_within is_space 0 line), enough))

-- ---- how it is looked for

pub tag-found : (line : List ℕ) (o : Option ℕ) (place : ℕ) → o ≡ first_space line → o ≡ Some place → is_tag_word (take place line) ≡ true → place + 1 ≡ tag_size line
tag-found line o place first is yes_it = let size : size_at line (Some place) ≡ place + 1 = rw yes_it refl in sym (ap (size_at line) (sym first ∙ is) ∙ size)

pub tag-other : (line : List ℕ) (o : Option ℕ) (place : ℕ) → o ≡ first_space line → o ≡ Some place → is_tag_word (take place line) ≡ false → 0 ≡ tag_size line
tag-other line o place first is other = let size : size_at line (Some place) ≡ 0 = rw other refl in sym (ap (size_at line) (sym first ∙ is) ∙ size)

pub tag-none : (line : List ℕ) (o : Option ℕ) → o ≡ first_space line → o ≡ None → 0 ≡ tag_size line
tag-none line o first none = sym (ap (size_at line) (sym first ∙ none))
