-- What comes after a letter, and around another.
use Rattle.std.proofs.Common.{◌≡◌, ◌≢◌, ◌<◌, ◌==◌, ℕ, Bool, true, false, List, [], ◌∷◌, length, Bor, Option, Some, None, option_map, MatchOption, refl, ap, arith}
use Rattle.std.specs.List.{position_or_len, before_first, after_first}
use Rattle.lsm_language.specs.Words.{after, pair_in}

-- the clause of `strip_prefix` at a letter
pub after-from : (letter : ℕ) (word : List ℕ) (r : Option (Bor (List ℕ)))
    → MatchOption r ((rest : List ℕ) → word ≢ letter ∷ rest) (λ x. word ≡ letter ∷ x.now) → option_map (λ rest. rest.now) r ≡ after letter word
after-from letter [] None other = refl
after-from letter (b ∷ bs) None other = by_test (b == letter) refl
  where
    by_test : (t : Bool) → (b == letter) ≡ t → None ≡ after letter (b ∷ bs)
    by_test true e = absurd (other bs (ap (λ x. x ∷ bs) (grind arith)))
    by_test false e = rw e refl
after-from letter word (Some rest) e = grind arith

-- the clause of `split_once` at `=`
pub pair_in-from : (word : List ℕ) (r : Option (Bor (List ℕ) × Bor (List ℕ)))
    → MatchOption r (position_or_len (λ b. b == 61) word ≡ length word)
    (λ x. (position_or_len (λ b. b == 61) word < length word) × (x.0.now ≡ before_first (λ b. b == 61) word) × (x.1.now ≡ after_first (λ b. b == 61) word))
    → MatchOption r (pair_in word ≡ None) (λ x. pair_in word ≡ Some (x.0.now, x.1.now))
pair_in-from word None e = rw e grind arith
pair_in-from word (Some x) e = grind arith
