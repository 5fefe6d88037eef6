-- Beginnings of lists, and batches after others.
use Rattle.std.proofs.Common.{◌≡◌, ℕ, zero, suc, ◌+◌, List, [], ◌∷◌, ◌++◌, take, drop, refl, ap, sym, ◌∙◌, arith}
use Rattle.lsm_codec.specs.Map.{Map, Operation, apply, apply_all}

-- more batches after others
pub apply_all-append : (m : Map) (xs ys : List (List Operation)) → apply_all m (xs ++ ys) ≡ apply_all (apply_all m xs) ys
apply_all-append m [] ys = refl
apply_all-append m (x ∷ xs) ys = apply_all-append (apply m x) xs ys

none_of : {X : Type 0} (n : ℕ) → take {A = X} n [] ≡ []
none_of zero = refl
none_of (suc n) = refl

zero-add : (n : ℕ) → 0 + n ≡ n
zero-add n = omega arith

suc-add : (i j : ℕ) → suc i + j ≡ suc (i + j)
suc-add i j = omega arith

-- the first of a list, and then more of it
pub take_sum : {X : Type 0} (i j : ℕ) (xs : List X) → take (i + j) xs ≡ take i xs ++ take j (drop i xs)
take_sum zero j xs = ap (λ n. take n xs) (zero-add j)
take_sum {X} (suc i) j [] = none_of {X = X} (suc i + j) ∙ sym (none_of {X = X} j)
take_sum (suc i) j (x ∷ xs) = ap (λ n. take n (x ∷ xs)) (suc-add i j) ∙ ap (λ l. x ∷ l) (take_sum i j xs)
