-- The numbers of tables, counted.
use Rattle.std.proofs.Common.{◌≡◌, ◌≢◌, inl, inr, ℕ, ◌+◌, ◌≤◌, ◌<◌, Bool, true, false, List, [], ◌∷◌, ◌++◌, refl, sym, ap, arith}
use Rattle.std.specs.Prelude.{◌==◌}
use Rattle.std.specs.List.{AllByRecursion}
use Rattle.std.proofs.lemmas.Bool.{eqb-true, eq-eqb}
use Rattle.lsm_codec.proofs.Lists.{all_append}
use Rattle.lsm_levels.specs.Among.{IsAmong}
use Rattle.lsm_levels.specs.Levels.{all_tables}
use Rattle.lsm_levels.specs.NamedBlocks.{AreNumberedApart, HaveNone}
use Rattle.lsm_levels.specs.Tables.{Table}
use Rattle.lsm_machine.specs.Accounts.{tables_numbered, AreNumbered}
use Rattle.lsm_machine.proofs.ExtentCounts.{one_if, count_cons, count_append}

pub numbered_cons : (n : ℕ) (t : Table) (ts : List Table) → tables_numbered n (t ∷ ts) ≡ one_if (t.number == n) + tables_numbered n ts
numbered_cons n t ts = count_cons (λ (u : Table). u.number == n) t ts

pub numbered_append : (n : ℕ) (xs ys : List Table) → tables_numbered n (xs ++ ys) ≡ tables_numbered n xs + tables_numbered n ys
numbered_append n xs ys = count_append (λ (u : Table). u.number == n) xs ys

one_here : (n : ℕ) (t : Table) → t.number ≡ n → one_if (t.number == n) ≡ 1
one_here n t is = ap one_if (eq-eqb t.number n is)

-- where none is counted none has the number
pub none_numbered : (n : ℕ) (ts : List Table) → tables_numbered n ts ≡ 0 → AllByRecursion (λ t. t.number ≢ n) ts
none_numbered n [] none = tt
none_numbered n (t ∷ ts) none =
    ((λ is. absurd (omega (arith, none, numbered_cons n t ts, one_here n t is))), none_numbered n ts (omega (arith, none, numbered_cons n t ts)))

-- and where none has it none is counted
pub numbered_none : (n : ℕ) (ts : List Table) → AllByRecursion (λ t. t.number ≢ n) ts → tables_numbered n ts ≡ 0
numbered_none n [] none = refl
numbered_none n (t ∷ ts) none = omega (arith, numbered_cons n t ts, ap one_if (unless (t.number == n) (λ h. none.0 (eqb-true t.number n h))), numbered_none n ts none.1)
  where
    unless : (b : Bool) → (b ≡ true → ⊥) → b ≡ false
    unless true f = absurd (f refl)
    unless false f = refl

-- one that is among tables is counted
pub numbered_among : (t : Table) (ts : List Table) → IsAmong t ts → 1 ≤ tables_numbered t.number ts
numbered_among t [] a = absurd a
numbered_among t (u ∷ ts) (inl e) = omega (arith, numbered_cons t.number u ts, one_here t.number u (ap (λ (x : Table). x.number) (sym e)))
numbered_among t (u ∷ ts) (inr a) = omega (arith, numbered_cons t.number u ts, numbered_among t ts a)

pub numbered_apart : (ts : List Table) → ((n : ℕ) → tables_numbered n ts ≤ 1) → AreNumberedApart ts
numbered_apart [] once = tt
numbered_apart (t ∷ ts) once =
    (none_numbered t.number ts (omega (arith, once t.number, numbered_cons t.number t ts, one_here t.number t refl)), numbered_apart ts (λ n. omega (arith, once n, numbered_cons n t ts)))

pub apart_numbered : (ts : List Table) → AreNumberedApart ts → (n : ℕ) → tables_numbered n ts ≤ 1
apart_numbered [] apart n = omega arith
apart_numbered (t ∷ ts) apart n = by (apart_numbered ts apart.1 n) (t.number == n) refl
  where
    by : tables_numbered n ts ≤ 1 → (b : Bool) → t.number == n ≡ b → tables_numbered n (t ∷ ts) ≤ 1
    by more true is = omega (arith, numbered_cons n t ts, ap one_if is, ap (λ (k : ℕ). tables_numbered k ts) (eqb-true t.number n is), numbered_none t.number ts apart.0)
    by more false is = omega (arith, numbered_cons n t ts, ap one_if is, more)

-- ---- in runs

-- what holds of those of each run holds of all tables of runs
pub in_all : (P : Table → Type 0) (runs : List (List Table)) → AllByRecursion (AllByRecursion P) runs → AllByRecursion P (all_tables runs)
in_all P [] all = tt
in_all P (run ∷ rest) all = all_append P run (all_tables rest) all.0 (in_all P rest all.1)

-- what holds of all tables of runs holds of those of each
pub in_each_run : (P : Table → Type 0) (runs : List (List Table)) → AllByRecursion P (all_tables runs) → AllByRecursion (AllByRecursion P) runs
in_each_run P [] all = tt
in_each_run P (run ∷ rest) all = let both = parts run all in (both.0, in_each_run P rest both.1)
  where
    parts : (ts : List Table) → AllByRecursion P (ts ++ all_tables rest) → AllByRecursion P ts × AllByRecursion P (all_tables rest)
    parts [] h = (tt, h)
    parts (t ∷ ts) h = let more = parts ts h.1 in ((h.0, more.0), more.1)

module _ (next : ℕ) (runs : List (List Table)) (others : List Table) (are : AreNumbered next (all_tables runs ++ others)) where
  -- no table of the runs has a number that is still to come
  pub none_to_come : (n : ℕ) → next ≤ n → HaveNone n runs
  none_to_come n later = in_each_run (λ t. t.number ≢ n) runs (none_numbered n (all_tables runs) (omega (arith, are.below n later, numbered_append n (all_tables runs) others)))

  -- or that of one of the others
  pub none_of_others : (t : Table) → IsAmong t others → HaveNone t.number runs
  none_of_others t a =
      in_each_run (λ u. u.number ≢ t.number) runs (none_numbered t.number (all_tables runs) (omega (arith, are.once t.number, numbered_append t.number (all_tables runs) others, numbered_among t others a)))

  pub runs_apart : AreNumberedApart (all_tables runs)
  runs_apart = numbered_apart (all_tables runs) (λ n. omega (arith, are.once n, numbered_append n (all_tables runs) others))

-- with fewer of each number
pub fewer_numbered : (next later : ℕ) (old new : List Table) → next ≤ later → ((n : ℕ) → tables_numbered n new ≤ tables_numbered n old) → AreNumbered next old → AreNumbered later new
fewer_numbered next later old new le few are = record { once = λ n. omega (arith, few n, are.once n); below = λ n h. omega (arith, few n, are.below n (omega (arith, le, h))) }

-- tables that have numbers of their own, below the next one
pub are_numbered : (next : ℕ) (ts : List Table) → AreNumberedApart ts → AllByRecursion (λ t. t.number < next) ts → AreNumbered next ts
are_numbered next ts apart low = record { once = apart_numbered ts apart; below = λ n h. numbered_none n ts (other n h ts low) }
  where
    other : (n : ℕ) → next ≤ n → (us : List Table) → AllByRecursion (λ t. t.number < next) us → AllByRecursion (λ t. t.number ≢ n) us
    other n h [] low = tt
    other n h (u ∷ us) low = ((λ e. omega (arith, e, h, low.0)), other n h us low.1)
