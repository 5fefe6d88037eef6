-- Levels whose runs are set one by one.
use Rattle.std.proofs.Common.{◌≡◌, ℕ, zero, suc, ◌+◌, ◌-◌, ◌<◌, List, [], ◌∷◌, ◌++◌, length, take, drop, get_or, set, ◌∙◌, ap, subst, arith}
use Rattle.lsm_levels.specs.Levels.{Levels}
use Rattle.lsm_levels.specs.Tables.{Table}

-- one more element of the first list stands before the rest of the second
set_one : (i : ℕ) (xs ys : List (List Table)) (x : List Table) → i < length xs → length ys ≡ length xs → x ≡ get_or xs i x → set (take i xs ++ drop i ys) i x ≡ take (suc i) xs ++ drop (suc i) ys
set_one i [] ys x lt same is = absurd (omega (arith, lt))
set_one i (a ∷ xs) [] x lt same is = absurd (omega (arith, same))
set_one zero (a ∷ xs) (b ∷ ys) x lt same is = ap (λ (y : List Table). y ∷ ys) is
set_one (suc i) (a ∷ xs) (b ∷ ys) x lt same is = ap (λ (l : List (List Table)). a ∷ l) (set_one i xs ys x (omega (arith, lt)) (omega (arith, same)) is)

set_next : (i : ℕ) (xs ys : List (List Table)) (x : List Table) → i < length xs → length ys ≡ length xs → x ≡ get_or xs i x → set (take i xs ++ drop i ys) ((i + 1) - 1) x ≡ take (i + 1) xs ++ drop (i + 1) ys
set_next i xs ys x lt same is =
    let more : suc i ≡ i + 1 = omega arith in
    let back : (i + 1) - 1 ≡ i = omega arith in
    ap (λ (k : ℕ). set (take i xs ++ drop i ys) k x) back ∙ subst (λ (k : ℕ). set (take i xs ++ drop i ys) i x ≡ take k xs ++ drop k ys) more (set_one i xs ys x lt same is)

-- so it is in levels, where a run of the first is set
pub level_set : (old new : Levels) (runs xs ys : List (List Table)) (i : ℕ) (run : List Table) → old ≡ record { runs = runs; deeper = take i xs ++ drop i ys } → new ≡ record { runs = old.runs; deeper = set old.deeper ((i + 1) - 1) run }
    → i < length xs → length ys ≡ length xs → run ≡ get_or xs i run → new ≡ record { runs = runs; deeper = take (i + 1) xs ++ drop (i + 1) ys }
level_set old new runs xs ys i run was now lt same is =
    now
    ∙ ap (λ (l : Levels). record { runs = l.runs; deeper = set l.deeper ((i + 1) - 1) run }) was
    ∙ ap (λ (d : List (List Table)). record { runs = runs; deeper = d }) (set_next i xs ys run lt same is)
