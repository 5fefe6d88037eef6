-- Texts that are no UTF-8, and what is shown of bytes.
use Rattle.std.proofs.Common.{◌≡◌, ◌∙◌, ◌<◌, ◌≤◌, ◌⊎◌, ℕ, Bool, true, false, List, [], ◌∷◌, if◌then◌else◌, length, map, min, nat_le, take, take_all, inl, inr, refl, sym, ap, arith}
use Rattle.std.proofs.lemmas.Bool.{cases_lt}
use Rattle.std.proofs.lemmas.Bool.Decides.{nat_tests}
use Rattle.std.proofs.lemmas.List.{length-map, length-take}
use Rattle.std.specs.List.{list_all}
use Rattle.lsm_language.specs.Showing.{is_printable, is_shown, printable, shown}
use Rattle.std.specs.Str.{IsUtf8, is_utf8}
use Rattle.std.proofs.lemmas.Str.{IsUtf8-from_is_utf8}

-- a text that isn't one
pub is_utf8-not : (text : List ℕ) → ¬ (IsUtf8 text) → is_utf8 text ≡ false
is_utf8-not text n = by_test (is_utf8 text) refl
  where
    by_test : (t : Bool) → is_utf8 text ≡ t → t ≡ false
    by_test true e = absurd (n (IsUtf8-from_is_utf8 text e))
    by_test false e = refl

pub take-min : (n : ℕ) (xs : List ℕ) → take (min n (length xs)) xs ≡ take n xs
take-min n xs = by (cases_lt n (length xs))
  where
    by : (n < length xs) ⊎ (length xs ≤ n) → take (min n (length xs)) xs ≡ take n xs
    by (inl lt) = ap (λ (k : ℕ). take k xs) (omega (arith, lt))
    by (inr le) =
        let all : min n (length xs) ≡ length xs = omega (arith, le) in
        ap (λ (k : ℕ). take k xs) all ∙ take_all (length xs) xs (omega arith) ∙ sym (take_all n xs le)

-- ---- what is shown is printable

printable_is : (b : ℕ) → is_printable (printable b) ≡ true
printable_is b = by (is_printable b) refl
  where
    by : (t : Bool) → is_printable b ≡ t → is_printable (if t then b else 63) ≡ true
    by true e = e
    by false e = refl

all_printable : (bytes : List ℕ) → list_all is_printable (map printable bytes) ≡ true
all_printable [] = refl
all_printable (b ∷ bs) = rw (printable_is b) (all_printable bs)

few : (n : ℕ) → n ≤ 80 → nat_le n 80 ≡ true
few n le = grind (arith, nat_tests)

pub shown-is_shown : (bytes : List ℕ) → is_shown (shown bytes) ≡ true
shown-is_shown bytes =
    let count : length (shown bytes) ≤ 80 = omega (arith, length-map (take 80 bytes) printable, length-take {A = ℕ} 80 bytes) in rw (few (length (shown bytes)) count) (all_printable (take 80 bytes))
