-- The numbers of tables and outputs, as a job is taken, goes on or is gone.
use Rattle.std.proofs.Common.{◌≡◌, ℕ, ◌+◌, ◌≤◌, ◌<◌, ◌==◌, Bool, true, false, ltb, List, [], ◌∷◌, ◌++◌, length, Option, Some, None, refl, sym, ap, subst, arith}
use Rattle.std.specs.List.{AllByRecursion}
use Rattle.std.proofs.lemmas.Bool.{eqb-true, ne_eqb, ltb-true, ltb-false}
use Rattle.lsm_extent.specs.Area.{Area}
use Rattle.lsm_jobs.specs.Placing.{ArePlaced}
use Rattle.lsm_jobs.specs.Slots.{Slot, Slots, slot_of, with_slot, with_held, outputs_at, outputs_of}
use Rattle.lsm_levels.specs.Tables.{Table}
use Rattle.lsm_open.specs.ToldTables.{IsOutlined}
use Rattle.lsm_table.specs.Division.{TableBlocks}
use Rattle.lsm_machine.specs.Accounts.{outputs_in, tables_numbered, AreNumbered}
use Rattle.lsm_machine.proofs.Accounts.{taken_outputs, unheld, held_counted}
use Rattle.lsm_machine.proofs.ExtentCounts.{one_if}
use Rattle.lsm_machine.proofs.TableNumbers.{numbered_cons, numbered_append, fewer_numbered}

module _ (next : ℕ) (ts : List Table) where
  abbrev In : Slots → Type 0
  In slots = AreNumbered next (ts ++ outputs_in slots)

  pub taken_numbered : (new : Slot) (slots : Slots) → outputs_at new.stage ≡ [] → AreNumbered next (ts ++ outputs_in slots) → AreNumbered next (ts ++ outputs_in (with_slot new slots))
  taken_numbered new slots none are = subst (λ (us : List Table). AreNumbered next (ts ++ us)) (sym (taken_outputs new slots none)) are

  -- a slot has another job, or none, with at most the same numbers
  pub held_numbered : (job : ℕ) (old : Slot) (now : Option Slot) (slots : Slots) → slot_of job slots ≡ Some old → ((n : ℕ) → tables_numbered n (outputs_of now) ≤ tables_numbered n (outputs_at old.stage))
      → AreNumbered next (ts ++ outputs_in slots) → AreNumbered next (ts ++ outputs_in (with_held job now slots))
  held_numbered job old now slots is few are =
      fewer_numbered next next (ts ++ outputs_in slots) (ts ++ outputs_in (with_held job now slots)) (omega arith)
      (λ n. omega (arith, few n, held_counted (λ (t : Table). t.number == n) job now slots old is, numbered_append n ts (outputs_in slots), numbered_append n ts (outputs_in (with_held job now slots)))) are

  -- a job is gone
  pub gone_numbered : (job : ℕ) (slots : Slots) → AreNumbered next (ts ++ outputs_in slots) → AreNumbered next (ts ++ outputs_in (with_held job None slots))
  gone_numbered job slots are = by (slot_of job slots) refl
    where
      by : (o : Option Slot) → slot_of job slots ≡ o → AreNumbered next (ts ++ outputs_in (with_held job None slots))
      by None is = subst (λ (l : Slots). AreNumbered next (ts ++ outputs_in l)) (sym (unheld job None slots is)) are
      by (Some old) is = held_numbered job old None slots is (λ n. omega arith) are

-- ---- outputs that are placed

-- What is placed under the numbers from one on has each of them once, and no other.
record IsRange (number count : ℕ) (tables : List Table) : Type 0 where
  once : (n : ℕ) → tables_numbered n tables ≤ 1
  low : (n : ℕ) → n < number → tables_numbered n tables ≡ 0
  high : (n : ℕ) → number + count ≤ n → tables_numbered n tables ≡ 0

placed_range : (number : ℕ) (area : Area) (images : List TableBlocks) (tables : List Table) → ArePlaced number area images tables → IsRange number (length images) tables
placed_range number area [] [] are = record { once = λ n. omega arith; low = λ n h. refl; high = λ n h. refl }
placed_range number area [] (t ∷ tables) are = absurd are
placed_range number area (image ∷ images) [] are = absurd are
placed_range number area (image ∷ images) (t ∷ tables) (one, more) =
    let later = placed_range (number + 1) _ images tables more in
    record {
      once = λ n. by n (t.number == n) refl later;
      low = λ n h. omega (arith, numbered_cons n t tables, other n (λ e. omega (arith, e, h, one.number_is)), later.low n (omega (arith, h)));
      high = λ n h. omega (arith, numbered_cons n t tables, other n (λ e. omega (arith, e, h, one.number_is)), later.high n (omega (arith, h)));
    }
  where
    other : (n : ℕ) → (t.number ≡ n → ⊥) → one_if (t.number == n) ≡ 0
    other n unlike = ap one_if (ne_eqb t.number n unlike)

    by : (n : ℕ) (b : Bool) → (t.number == n) ≡ b → IsRange (number + 1) (length images) tables → tables_numbered n (t ∷ tables) ≤ 1
    by n true e later = omega (arith, numbered_cons n t tables, ap one_if e, later.low n (omega (arith, eqb-true t.number n e, one.number_is)))
    by n false e later = omega (arith, numbered_cons n t tables, ap one_if e, later.once n)

-- they come along with tables with numbers below the first of theirs
pub placed_numbered : (next : ℕ) (ts : List Table) (area : Area) (images : List TableBlocks) (tables : List Table) (job : ℕ) (old now : Slot) (slots : Slots) → ArePlaced next area images tables → slot_of job slots ≡ Some old → outputs_at old.stage ≡ []
    → outputs_at now.stage ≡ tables → AreNumbered next (ts ++ outputs_in slots) → AreNumbered (next + length images) (ts ++ outputs_in (with_held job (Some now) slots))
placed_numbered next ts area images tables job old now slots placed is before after are = record {
  once = λ n. by n (ltb n next) refl;
  below = λ n h. omega (arith, counted n, range.high n h, are.below n (omega (arith, h)));
}
  where
    range : IsRange next (length images) tables
    range = placed_range next area images tables placed

    counted : (n : ℕ) → tables_numbered n (ts ++ outputs_in (with_held job (Some now) slots)) ≡ tables_numbered n (ts ++ outputs_in slots) + tables_numbered n tables
    counted n = omega (
      arith,
      held_counted (λ (t : Table). t.number == n) job (Some now) slots old is,
      numbered_append n ts (outputs_in slots),
      numbered_append n ts (outputs_in (with_held job (Some now) slots)),
      ap (tables_numbered n) before,
      ap (tables_numbered n) after,
    )

    by : (n : ℕ) (b : Bool) → ltb n next ≡ b → tables_numbered n (ts ++ outputs_in (with_held job (Some now) slots)) ≤ 1
    by n true e = omega (arith, counted n, range.low n (ltb-true n next e), are.once n)
    by n false e = omega (arith, counted n, range.once n, are.below n (ltb-false n next e))

pub placed_outlined : (number : ℕ) (area : Area) (images : List TableBlocks) (tables : List Table) → ArePlaced number area images tables → AllByRecursion IsOutlined tables
placed_outlined number area [] [] are = tt
placed_outlined number area [] (t ∷ tables) are = absurd are
placed_outlined number area (image ∷ images) [] are = absurd are
placed_outlined number area (image ∷ images) (t ∷ tables) (one, more) = (subst IsOutlined (sym one.of.same) refl, placed_outlined (number + 1) _ images tables more)
