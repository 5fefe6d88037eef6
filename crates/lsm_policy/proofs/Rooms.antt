-- What is left of a number, part by part.
use Rattle.std.proofs.Common.{◌≡◌, ℕ, ◌+◌, ◌-◌, ◌<◌, ◌≤◌, Bool, true, false, cond, leb, List, ◌++◌, length, Option, Some, None, is_some, refl, sym, ap, ◌∙◌, arith}
use Rattle.std.proofs.lemmas.Bool.{le-leb, leb-true, leb-false, lt-leb}
use Rattle.std.proofs.lemmas.List.{length-append}
use Rattle.std.proofs.lemmas.List.Sums.{sum_by-append}
use Rattle.lsm_levels.specs.Tables.{Table}
use Rattle.lsm_levels.specs.Levels.{Levels, all_tables, places}
use Rattle.lsm_levels.proofs.OldestRuns.{tables_append}
use Rattle.lsm_policy.specs.Room.{blocks_of, left_of}

left_yes : (limit n : ℕ) → n ≤ limit → left_of limit n ≡ Some (limit - n)
left_yes limit n le = ap (λ (b : Bool). cond b (Some (limit - n)) None) (le-leb n limit le)

left_no : (limit n : ℕ) → limit < n → left_of limit n ≡ None
left_no limit n lt = ap (λ (b : Bool). cond b (Some (limit - n)) None) (lt-leb n limit lt)

-- a part of it first, and then the rest
left_step : (limit part rest : ℕ) → part ≤ limit → left_of (limit - part) rest ≡ left_of limit (part + rest)
left_step limit part rest le = by (leb rest (limit - part)) refl
  where
    by : (b : Bool) → leb rest (limit - part) ≡ b → left_of (limit - part) rest ≡ left_of limit (part + rest)
    by true e =
        let within = leb-true rest (limit - part) e in
        left_yes (limit - part) rest within ∙ ap Some (omega (arith, le, within)) ∙ sym (left_yes limit (part + rest) (omega (arith, le, within)))
    by false e =
        let beyond = leb-false rest (limit - part) e in
        left_no (limit - part) rest beyond ∙ sym (left_no limit (part + rest) (omega (arith, le, beyond)))

left_is : (limit part left : ℕ) → left_of limit part ≡ Some left → (part ≤ limit) × (limit - part ≡ left)
left_is limit part left e = by (leb part limit) refl e
  where
    by : (b : Bool) → leb part limit ≡ b → cond b (Some (limit - part)) None ≡ Some left → (part ≤ limit) × (limit - part ≡ left)
    by true f g = (leb-true part limit f, cc)
    by false f g = absurd cc

too_much : (limit part : ℕ) → left_of limit part ≡ None → limit < part
too_much limit part e = by (leb part limit) refl e
  where
    by : (b : Bool) → leb part limit ≡ b → cond b (Some (limit - part)) None ≡ None → limit < part
    by true f g = absurd cc
    by false f g = leb-false part limit f

fits : (limit n : ℕ) → is_some (left_of limit n) ≡ leb n limit
fits limit n = by (leb n limit)
  where
    by : (b : Bool) → is_some (cond b (Some (limit - n)) None) ≡ b
    by true = refl
    by false = refl

-- two parts, one after the other
pub parts_fit : (limit a b : ℕ) (first : Option ℕ) → first ≡ left_of limit a → (left : ℕ) (rest : Option ℕ) → first ≡ Some left → rest ≡ left_of left b → is_some rest ≡ leb (a + b) limit
parts_fit limit a b first first_is left rest some rest_is =
    let got = left_is limit a left (sym first_is ∙ some) in
    ap is_some (rest_is ∙ ap (λ (n : ℕ). left_of n b) (sym got.1) ∙ left_step limit a b got.0) ∙ fits limit (a + b)

pub parts_too_much : (limit a b : ℕ) (first : Option ℕ) → first ≡ left_of limit a → first ≡ None → false ≡ leb (a + b) limit
parts_too_much limit a b first first_is none =
    let beyond = too_much limit a (sym first_is ∙ none) in sym (lt-leb (a + b) limit (omega (arith, beyond)))

-- of a measure of tables that adds up, first the runs of level 0, and then the others
module _ (measure : List Table → ℕ) (adds : (xs ys : List Table) → measure (xs ++ ys) ≡ measure xs + measure ys) (limit : ℕ) (levels : Levels) (runs deeper : List (List Table)) (runs_are : runs ≡ levels.runs) (deeper_are : deeper ≡ levels.deeper) (first : Option ℕ) (first_is : first ≡ left_of limit (measure (all_tables runs))) where
  whole : measure (all_tables runs) + measure (all_tables deeper) ≡ measure (all_tables (places levels))
  whole =
      sym (adds (all_tables runs) (all_tables deeper)) ∙ ap measure (sym (tables_append runs deeper))
      ∙ (λ i. measure (all_tables (runs_are i ++ deeper_are i)))

  pub whole_fits : (left : ℕ) (rest : Option ℕ) → first ≡ Some left → rest ≡ left_of left (measure (all_tables deeper)) → is_some rest ≡ leb (measure (all_tables (places levels))) limit
  whole_fits left rest some rest_is =
      let got = left_is limit (measure (all_tables runs)) left (sym first_is ∙ some) in
      ap is_some (rest_is ∙ ap (λ (n : ℕ). left_of n (measure (all_tables deeper))) (sym got.1) ∙ left_step limit (measure (all_tables runs)) (measure (all_tables deeper)) got.0)
      ∙ fits limit (measure (all_tables runs) + measure (all_tables deeper)) ∙ ap (λ (n : ℕ). leb n limit) whole

  pub whole_too_much : first ≡ None → false ≡ leb (measure (all_tables (places levels))) limit
  whole_too_much none =
      let beyond = too_much limit (measure (all_tables runs)) (sym first_is ∙ none) in
      sym (lt-leb (measure (all_tables runs) + measure (all_tables deeper)) limit (omega (arith, beyond))) ∙ ap (λ (n : ℕ). leb n limit) whole

pub blocks_add : (xs ys : List Table) → blocks_of (xs ++ ys) ≡ blocks_of xs + blocks_of ys
blocks_add xs ys = sum_by-append (λ t. t.blocks) xs ys

pub numbers_add : (xs ys : List Table) → length (xs ++ ys) ≡ length xs + length ys
numbers_add xs ys = length-append xs ys
