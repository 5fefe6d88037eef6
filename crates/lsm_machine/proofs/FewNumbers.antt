-- Tables that have numbers of their own below the next one's are no more than these.
use Rattle.std.proofs.Common.{◌≡◌, ◌⊎◌, inl, inr, ℕ, zero, suc, ◌+◌, ◌≤◌, ◌<◌, ltb, List, [], ◌∷◌, length, filter, refl, ap, arith}
use Rattle.std.specs.Prelude.{◌==◌}
use Rattle.std.specs.List.{AllByRecursion}
use Rattle.std.proofs.lemmas.Bool.{cases_lt, lt-ltb, le-ltb, eq-eqb, ne_eqb}
use Rattle.lsm_levels.specs.Tables.{Table}
use Rattle.lsm_machine.specs.Accounts.{tables_numbered, AreNumbered}
use Rattle.lsm_machine.proofs.ExtentCounts.{one_if, count_cons}
use Rattle.lsm_machine.proofs.TableNumbers.{numbered_cons, numbered_among}

-- tables that are counted under no number to come have numbers below the next one
pub all_below : (next : ℕ) (ts : List Table) → ((n : ℕ) → next ≤ n → tables_numbered n ts ≡ 0) → AllByRecursion (λ t. t.number < next) ts
all_below next [] none = tt
all_below next (t ∷ ts) none = (by (cases_lt t.number next), all_below next ts (λ n h. omega (arith, none n h, numbered_cons n t ts)))
  where
    by : (t.number < next) ⊎ (next ≤ t.number) → t.number < next
    by (inl lt) = lt
    by (inr le) = absurd (omega (arith, none t.number le, numbered_among t (t ∷ ts) (inl refl)))

-- how many have numbers below one
abbrev below : ℕ → List Table → ℕ
below n ts = length (filter (λ (t : Table). ltb t.number n) ts)

below_cons : (n : ℕ) (t : Table) (ts : List Table) → below n (t ∷ ts) ≡ one_if (ltb t.number n) + below n ts
below_cons n t ts = count_cons (λ (u : Table). ltb u.number n) t ts

one_more : (x n : ℕ) → one_if (ltb x (suc n)) ≡ one_if (ltb x n) + one_if (x == n)
one_more x n = by (cases_lt x n)
  where
    by : (x < n) ⊎ (n ≤ x) → one_if (ltb x (suc n)) ≡ one_if (ltb x n) + one_if (x == n)
    by (inl lt) = omega (arith, ap one_if (lt-ltb x (suc n) (omega (arith, lt))), ap one_if (lt-ltb x n lt), ap one_if (ne_eqb x n (λ e. omega (arith, lt, e))))
    by (inr le) = last (cases_lt n x)
      where
        last : (n < x) ⊎ (x ≤ n) → one_if (ltb x (suc n)) ≡ one_if (ltb x n) + one_if (x == n)
        last (inl more) = omega (arith, ap one_if (le-ltb x (suc n) (omega (arith, more))), ap one_if (le-ltb x n le), ap one_if (ne_eqb x n (λ e. omega (arith, more, e))))
        last (inr same) = omega (arith, ap one_if (lt-ltb x (suc n) (omega (arith, same))), ap one_if (le-ltb x n le), ap one_if (eq-eqb x n (omega (arith, le, same))))

below_more : (n : ℕ) (ts : List Table) → below (suc n) ts ≡ below n ts + tables_numbered n ts
below_more n [] = omega arith
below_more n (t ∷ ts) = omega (arith, below_cons (suc n) t ts, below_cons n t ts, numbered_cons n t ts, one_more t.number n, below_more n ts)

none_below : (ts : List Table) → below zero ts ≡ 0
none_below [] = refl
none_below (t ∷ ts) = omega (arith, below_cons zero t ts, ap one_if (le-ltb t.number zero (omega arith)), none_below ts)

few_below : (n : ℕ) (ts : List Table) → ((k : ℕ) → tables_numbered k ts ≤ 1) → below n ts ≤ n
few_below zero ts once = omega (arith, none_below ts)
few_below (suc n) ts once = omega (arith, below_more n ts, once n, few_below n ts once)

each_below : (next : ℕ) (ts : List Table) → AllByRecursion (λ t. t.number < next) ts → length ts ≤ below next ts
each_below next [] all = omega arith
each_below next (t ∷ ts) all = omega (arith, below_cons next t ts, ap one_if (lt-ltb t.number next all.0), each_below next ts all.1)

pub few_numbered : (next : ℕ) (ts : List Table) → AreNumbered next ts → length ts ≤ next
few_numbered next ts are = omega (arith, each_below next ts (all_below next ts are.below), few_below next ts are.once)
