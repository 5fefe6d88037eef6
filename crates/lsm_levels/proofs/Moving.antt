-- How many tables an install leaves: those that were there, without its inputs and with its outputs.
use Rattle.std.proofs.Common.{◌≡◌, ⊎_elim, ℕ, zero, suc, ◌+◌, ◌<◌, ◌≤◌, Bool, true, false, cond, List, [], ◌∷◌, ◌++◌, length, get_or, set, filter, Option, refl, sym, ap, ◌∙◌, subst, arith}
use Rattle.std.specs.List.{AllByRecursion}
use Rattle.std.proofs.lemmas.List.{length-append, get_or-set_other}
use Rattle.std.proofs.lemmas.List.Elements.{filter-append}
use Rattle.lsm_levels.specs.Tables.{Table, KeyRange, at_most, is_below, meets, meeting, put_at, IsRun}
use Rattle.lsm_levels.specs.Levels.{Levels, all_tables, level, places, newer_runs, merged_at, replaced, reach}
use Rattle.lsm_levels.specs.Pick.{Flush, Merge}
use Rattle.lsm_levels.specs.Held.{AreRuns, AreOldest, HasItsTables}
use Rattle.lsm_levels.specs.Moving.{MovingLaw, LowerLaw}
use Rattle.lsm_levels.proofs.KeyOrder.{below_not, below_at_most, below_then}
use Rattle.lsm_levels.proofs.Members.{among_passed, passed_among}
use Rattle.lsm_codec.proofs.Lists.{filter_step}
use Rattle.lsm_levels.proofs.Ranges.{no, all_of, run_order, sides, meets_ends}
use Rattle.lsm_levels.proofs.OldestRuns.{HaveTables, newer_few, newer_oldest}
use Rattle.lsm_levels.proofs.Runs.{run_at, run_filter, upper_is, upper_order}
use Rattle.lsm_levels.proofs.TablesMet.{same_run}

-- ---- the inputs of a merge

module _ (levels : Levels) (runs : AreRuns levels) (flag : Bool) (i : ℕ) (upper lower : List Table) (h : HasItsTables levels flag i upper lower) where
  pub lower_met : lower ≡ filter (meets h.range) (level levels (suc i))
  lower_met = same_run lower (filter (meets h.range) (level levels (suc i))) h.lower_run (run_filter (meets h.range) (level levels (suc i)) (run_at levels runs i))
      (λ t a. among_passed (meets h.range) t (level levels (suc i)) (h.lowers t a) (h.meet t a))
      (λ t a. let both = passed_among (meets h.range) t (level levels (suc i)) a in h.all t both.0 both.1)

pub lower_law : LowerLaw
lower_law levels flag i upper lower runs h =
    let next : suc i ≡ i + 1 = omega arith in
    lower_met levels runs flag i upper lower h ∙ ap (λ (n : ℕ). filter (meets h.range) (level levels n)) next ∙ ap (λ (o : Option KeyRange). meeting o (level levels (i + 1))) (sym h.hull_is)

-- ---- counting

module _ (p : Table → Bool) where
  abbrev count : List Table → ℕ
  count xs = length (filter p xs)

  count_append : (xs ys : List Table) → count (xs ++ ys) ≡ count xs + count ys
  count_append xs ys = ap length (filter-append p xs ys) ∙ length-append (filter p xs) (filter p ys)

  -- with one table more
  abbrev one_more : Bool → ℕ → ℕ
  one_more true n = suc n
  one_more false n = n

  count_cons : (x : Table) (xs : List Table) → count (x ∷ xs) ≡ one_more (p x) (count xs)
  count_cons x xs = by (p x)
    where
      by : (b : Bool) → length (cond b (x ∷ filter p xs) (filter p xs)) ≡ one_more b (count xs)
      by true = refl
      by false = refl

  abbrev count_all : List (List Table) → ℕ
  count_all runs = count (all_tables runs)

  count_run : (run : List Table) (rest : List (List Table)) → count_all (run ∷ rest) ≡ count run + count_all rest
  count_run run rest = count_append run (all_tables rest)

  count_places : (xs ys : List (List Table)) → count_all (xs ++ ys) ≡ count_all xs + count_all ys
  count_places [] ys = omega arith
  count_places (x ∷ xs) ys = omega (arith, count_run x (xs ++ ys), count_run x xs, count_places xs ys)

  -- with another run at a place
  count_set : (runs : List (List Table)) (i : ℕ) (run : List Table) → i < length runs → count_all (set runs i run) + count (get_or runs i []) ≡ count_all runs + count run
  count_set [] i run lt = absurd (omega (arith, lt))
  count_set (x ∷ xs) zero run lt = omega (arith, count_run run xs, count_run x xs)
  count_set (x ∷ xs) (suc i) run lt = omega (arith, count_run x (set xs i run), count_run x xs, count_set xs i run (omega (arith, lt)))

  -- without the oldest runs
  count_newer : (runs : List (List Table)) (tables : List Table) → HaveTables runs → AreOldest runs tables → count_all (newer_runs (length tables) runs) + count tables ≡ count_all runs
  count_newer runs tables some o =
      omega (arith, ap count_all (newer_oldest runs tables some o), ap count o.all, ap count_all o.split, count_places o.newer o.oldest)

  module _ (r : KeyRange) (order : at_most r.first r.last ≡ true) where
    abbrev before : List Table → List Table
    before xs = filter (λ t. is_below t.last r.first) xs

    abbrev behind : List Table → List Table
    behind xs = filter (λ t. is_below r.last t.first) xs

    abbrev met : List Table → List Table
    met xs = filter (meets r) xs

    -- a table lies before the range, meets it or lies after it
    abbrev Parted : List Table → Type 0
    Parted xs = count (before xs) + count (met xs) + count (behind xs) ≡ count xs

    part_more : (t : Table) (xs : List Table) → at_most t.first t.last ≡ true → Parted xs → Parted (t ∷ xs)
    part_more t xs own rest = by (meets r t) refl
      where
        joined : (a b c : Bool) → is_below t.last r.first ≡ a → meets r t ≡ b → is_below r.last t.first ≡ c
            → count (cond a (t ∷ before xs) (before xs)) + count (cond b (t ∷ met xs) (met xs)) + count (cond c (t ∷ behind xs) (behind xs)) ≡ count (t ∷ xs)
            → count (before (t ∷ xs)) + count (met (t ∷ xs)) + count (behind (t ∷ xs)) ≡ count (t ∷ xs)
        joined a b c e f g same =
            omega (arith, ap count (filter_step (λ u. is_below u.last r.first) t xs a e), ap count (filter_step (meets r) t xs b f), ap count (filter_step (λ u. is_below r.last u.first) t xs c g), same)

        here : (b : Bool) → p t ≡ b → count (t ∷ before xs) + count (met xs) + count (behind xs) ≡ count (t ∷ xs)
        here true e = omega (arith, count_cons t (before xs), count_cons t xs, ap (λ b. one_more b (count (before xs))) e, ap (λ b. one_more b (count xs)) e, rest)
        here false e = omega (arith, count_cons t (before xs), count_cons t xs, ap (λ b. one_more b (count (before xs))) e, ap (λ b. one_more b (count xs)) e, rest)

        there : (b : Bool) → p t ≡ b → count (before xs) + count (t ∷ met xs) + count (behind xs) ≡ count (t ∷ xs)
        there true e = omega (arith, count_cons t (met xs), count_cons t xs, ap (λ b. one_more b (count (met xs))) e, ap (λ b. one_more b (count xs)) e, rest)
        there false e = omega (arith, count_cons t (met xs), count_cons t xs, ap (λ b. one_more b (count (met xs))) e, ap (λ b. one_more b (count xs)) e, rest)

        beyond : (b : Bool) → p t ≡ b → count (before xs) + count (met xs) + count (t ∷ behind xs) ≡ count (t ∷ xs)
        beyond true e = omega (arith, count_cons t (behind xs), count_cons t xs, ap (λ b. one_more b (count (behind xs))) e, ap (λ b. one_more b (count xs)) e, rest)
        beyond false e = omega (arith, count_cons t (behind xs), count_cons t xs, ap (λ b. one_more b (count (behind xs))) e, ap (λ b. one_more b (count xs)) e, rest)

        unless : (b : Bool) → (b ≡ true → ⊥) → b ≡ false
        unless true f = absurd (f refl)
        unless false f = refl

        both : is_below t.last r.first ≡ true → is_below r.last t.first ≡ true → ⊥
        both left right =
            let over : is_below t.last r.last ≡ true = below_then t.last r.first r.last left order in
            let round : is_below t.last t.first ≡ true = below_then t.last r.last t.first over (below_at_most r.last t.first right) in
            no (sym own ∙ below_not t.last t.first round)

        by : (b : Bool) → meets r t ≡ b → count (before (t ∷ xs)) + count (met (t ∷ xs)) + count (behind (t ∷ xs)) ≡ count (t ∷ xs)
        by true e =
            let ends = meets_ends r t e in
            joined false true false (unless (is_below t.last r.first) (λ h. no (sym ends.0 ∙ below_not t.last r.first h))) e (unless (is_below r.last t.first) (λ h. no (sym ends.1 ∙ below_not r.last t.first h))) (there (p t) refl)
        by false e = ⊎_elim
            (λ left. joined true false false left e (unless (is_below r.last t.first) (λ right. both left right)) (here (p t) refl))
            (λ right. joined false false true (unless (is_below t.last r.first) (λ left. both left right)) e right (beyond (p t) refl))
            (sides r t e)

    count_parts : (xs : List Table) → AllByRecursion (λ t. at_most t.first t.last ≡ true) xs → Parted xs
    count_parts [] own = refl
    count_parts (t ∷ xs) own = part_more t xs own.0 (count_parts xs own.1)

    -- with tables in the place of those that meet the range
    count_put : (new xs : List Table) → AllByRecursion (λ t. at_most t.first t.last ≡ true) xs → count (put_at r new xs) + count (met xs) ≡ count xs + count new
    count_put new xs own = omega (arith, count_append (before xs) (new ++ behind xs), count_append new (behind xs), count_parts xs own)

-- ---- what an install leaves

length_set : (xs : List (List Table)) (i : ℕ) (y : List Table) → length (set xs i y) ≡ length xs
length_set [] i y = refl
length_set (x ∷ xs) zero y = refl
length_set (x ∷ xs) (suc i) y = ap suc (length_set xs i y)

each_own : (run : List Table) → IsRun run → AllByRecursion (λ t. at_most t.first t.last ≡ true) run
each_own run r = all_of (λ t. at_most t.first t.last ≡ true) run (run_order run r)

-- how many pass a test
abbrev Moved : Levels → List Table → List Table → (Table → Bool) → Levels → Type 0
Moved levels tables new p after = length (filter p (all_tables (places after))) + length (filter p tables) ≡ length (filter p (all_tables (places levels))) + length (filter p new)

module _ (levels : Levels) (runs : AreRuns levels) (flag : Bool) (lower new : List Table) (p : Table → Bool) where
  rewritten : (i : ℕ) (h : HasItsTables levels flag i [] lower) → Moved levels lower new p (replaced i h.range 0 new levels)
  rewritten i h =
      let below = get_or levels.deeper i [] in
      let put = put_at h.range new below in
      omega (
        arith,
        count_places p levels.runs (set levels.deeper i put),
        count_places p levels.runs levels.deeper,
        count_set p levels.deeper i put (omega (arith, runs.four, h.known)),
        count_put p h.range (upper_order levels flag i [] lower runs h) new below (each_own below (run_at levels runs i)),
        ap (λ (l : List Table). length (filter p l)) (lower_met levels runs flag i [] lower h),
      )

  module _ (first : Table) (others : List Table) where
    abbrev upper : List Table
    upper = first ∷ others

    moved : (i : ℕ) (h : HasItsTables levels flag i upper lower) → Moved levels (upper ++ lower) new p (replaced i h.range (length upper) new levels)
    moved zero h =
        let r = h.range in
        let below = get_or levels.deeper 0 [] in
        let put = put_at r new below in
        let order = upper_order levels flag zero upper lower runs h in
        omega (
          arith,
          count_places p (newer_runs (length upper) levels.runs) (set levels.deeper 0 put),
          count_places p levels.runs levels.deeper,
          count_newer p levels.runs upper runs.some h.uppers,
          count_set p levels.deeper 0 put (omega (arith, runs.four)),
          count_put p r order new below (each_own below (run_at levels runs 0)),
          ap (λ (l : List Table). length (filter p l)) (lower_met levels runs flag zero upper lower h),
          count_append p upper lower,
        )
    moved (suc i) h =
        let r = h.range in
        let above = get_or levels.deeper i [] in
        let below = get_or levels.deeper (suc i) [] in
        let put = put_at r new below in
        let mid = set levels.deeper (suc i) put in
        let cut = put_at r [] (get_or mid i []) in
        let order = upper_order levels flag (suc i) upper lower runs h in
        let same : get_or mid i [] ≡ above = get_or-set_other levels.deeper (suc i) i put [] (λ e. omega (arith, e)) in
        let cut_is : length (filter p cut) ≡ length (filter p (put_at r [] above)) = ap (λ (l : List Table). length (filter p (put_at r [] l))) same in
        omega (
          arith,
          count_places p levels.runs (set mid i cut),
          count_places p levels.runs levels.deeper,
          count_set p mid i cut (omega (arith, length_set levels.deeper (suc i) put, runs.four, h.known)),
          count_set p levels.deeper (suc i) put (omega (arith, runs.four, h.known)),
          ap (λ (l : List Table). length (filter p l)) same,
          cut_is,
          count_put p r order [] above (each_own above (run_at levels runs i)),
          count_put p r order new below (each_own below (run_at levels runs (suc i))),
          ap (λ (l : List Table). length (filter p l)) (upper_is levels i upper h.range h.hull_is h.uppers),
          ap (λ (l : List Table). length (filter p l)) (lower_met levels runs flag (suc i) upper lower h),
          count_append p upper lower,
        )

all_moved : (levels : Levels) → AreRuns levels → (flag : Bool) (i : ℕ) (upper lower new : List Table) (h : HasItsTables levels flag i upper lower) (p : Table → Bool)
    → Moved levels (upper ++ lower) new p (replaced i h.range (length upper) new levels)
all_moved levels runs flag i [] lower new h p = rewritten levels runs flag lower new p i h
all_moved levels runs flag i (first ∷ others) lower new h p = moved levels runs flag lower new p first others i h

-- no run is added
kept_runs : (levels : Levels) (tables : ℕ) (new : List Table) (i : ℕ) (r : KeyRange) → length (replaced i r tables new levels).runs ≤ length levels.runs + 0
kept_runs levels zero new i r = omega arith
kept_runs levels (suc n) new zero r = omega (arith, newer_few (suc n) levels.runs)
kept_runs levels (suc n) new (suc i) r = omega arith

-- the tables in all
all_pass : (xs : List Table) → length (filter (λ t. true) xs) ≡ length xs
all_pass [] = refl
all_pass (x ∷ xs) = ap suc (all_pass xs)

pub moving_law : MovingLaw
moving_law levels flag Flush new runs h = record {
  passed = λ test. omega (arith, count_run test new (levels.runs ++ levels.deeper));
  number = omega (arith, length-append new (all_tables (levels.runs ++ levels.deeper)));
  runs = omega arith;
}
moving_law levels flag (Merge i upper lower) new runs h =
    let counted : (test : Table → Bool) → Moved levels (upper ++ lower) new test (merged_at i (reach upper lower) (length upper) new levels) =
    λ test. subst (λ (o : Option KeyRange). Moved levels (upper ++ lower) new test (merged_at i o (length upper) new levels)) (sym h.hull_is) (all_moved levels runs flag i upper lower new h test) in
    record {
      passed = counted;
      number = omega (arith, counted (λ t. true), all_pass (all_tables (places (merged_at i (reach upper lower) (length upper) new levels))), all_pass (upper ++ lower), all_pass (all_tables (places levels)), all_pass new);
      runs = subst (λ (o : Option KeyRange). length (merged_at i o (length upper) new levels).runs ≤ length levels.runs + 0) (sym h.hull_is) (kept_runs levels (length upper) new i h.range);
    }
