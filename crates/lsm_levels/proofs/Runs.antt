-- The levels stay runs.
use Rattle.std.proofs.Common.{◌≡◌, inl, inr, ⊎_elim, ℕ, zero, suc, ◌<◌, Bool, true, false, cond, List, [], ◌∷◌, ◌++◌, length, take, get_or, set, filter, Option, Some, None, refl, sym, ap, ◌∙◌, subst, append-nil}
use Rattle.std.specs.List.{AllByRecursion}
use Rattle.lsm_levels.specs.Among.{IsAmong}
use Rattle.lsm_levels.proofs.Members.{passed_among, among_either}
use Rattle.lsm_levels.specs.Tables.{Table, KeyRange, range_of, at_most, is_below, hull, meets, meeting, put_at, IsRun}
use Rattle.lsm_levels.specs.Levels.{Levels, all_tables, level, with_level, merged_at, lowered, replaced, reach}
use Rattle.lsm_levels.specs.Pick.{Flush, Merge}
use Rattle.lsm_levels.specs.Held.{AreRuns, IsUpper, HasItsTables, IsWithin, RunsLaw}
use Rattle.lsm_levels.proofs.KeyOrder.{below_then, below_at_most, at_most_trans}
use Rattle.lsm_levels.proofs.Ranges.{all_of, of_all, run_order, other_apart, within_left, within_right, apart_left, apart_right}
use Rattle.lsm_levels.proofs.HullLaws.{hull_order, all_right, all_left}
use Rattle.lsm_levels.proofs.OldestRuns.{all_newer, oldest_among}

module _ {X : Type 0} (P : X → Type 0) where
  pub all_or : (xs : List X) (i : ℕ) (d : X) → AllByRecursion P xs → P d → P (get_or xs i d)
  all_or [] i d h k = k
  all_or (x ∷ xs) zero d h k = h.0
  all_or (x ∷ xs) (suc i) d h k = all_or xs i d h.1 k

  pub all_set : (xs : List X) (i : ℕ) (y : X) → AllByRecursion P xs → P y → AllByRecursion P (set xs i y)
  all_set [] i y h k = tt
  all_set (x ∷ xs) zero y h k = (k, h.1)
  all_set (x ∷ xs) (suc i) y h k = (h.0, all_set xs i y h.1 k)

  pub all_take : (n : ℕ) (xs : List X) → AllByRecursion P xs → AllByRecursion P (take n xs)
  all_take zero xs h = tt
  all_take (suc n) [] h = tt
  all_take (suc n) (x ∷ xs) h = (h.0, all_take n xs h.1)

  pub all_filter : (p : X → Bool) (xs : List X) → AllByRecursion P xs → AllByRecursion P (filter p xs)
  all_filter p [] h = tt
  all_filter p (x ∷ xs) h = by (all_filter p xs h.1) (p x)
    where
      by : AllByRecursion P (filter p xs) → (b : Bool) → AllByRecursion P (cond b (x ∷ filter p xs) (filter p xs))
      by more true = (h.0, more)
      by more false = more

pub run_filter : (p : Table → Bool) (run : List Table) → IsRun run → IsRun (filter p run)
run_filter p [] r = tt
run_filter p (t ∷ rest) r = by (run_filter p rest r.2) (p t)
  where
    by : IsRun (filter p rest) → (b : Bool) → IsRun (cond b (t ∷ filter p rest) (filter p rest))
    by more true = (r.0, all_filter (λ u. is_below t.last u.first ≡ true) p rest r.1, more)
    by more false = more

pub run_append : (xs ys : List Table) → IsRun xs → IsRun ys → ((x y : Table) → IsAmong x xs → IsAmong y ys → is_below x.last y.first ≡ true) → IsRun (xs ++ ys)
run_append [] ys r s h = s
run_append (x ∷ xs) ys r s h = (
  r.0,
  all_of (λ y. is_below x.last y.first ≡ true) (xs ++ ys) (λ y a. ⊎_elim (λ b. of_all (λ u. is_below x.last u.first ≡ true) xs r.1 y b) (λ b. h x y (inl refl) b) (among_either y xs ys a)),
  run_append xs ys r.2 s (λ u y a b. h u y (inr a) b),
)

-- the run of a level
pub run_at : (levels : Levels) → AreRuns levels → (i : ℕ) → IsRun (level levels (suc i))
run_at levels runs i = all_or IsRun levels.deeper i [] runs.deeper tt

abbrev before : KeyRange → List Table → List Table
before r xs = filter (λ t. is_below t.last r.first) xs

abbrev behind : KeyRange → List Table → List Table
behind r xs = filter (λ t. is_below r.last t.first) xs

module _ (r : KeyRange) (order : at_most r.first r.last ≡ true) (xs : List Table) (run : IsRun xs) where
  across : (x y : Table) → IsAmong x (before r xs) → IsAmong y (behind r xs) → is_below x.last y.first ≡ true
  across x y a b =
      let left = passed_among (λ t. is_below t.last r.first) x xs a in
      let right = passed_among (λ t. is_below r.last t.first) y xs b in
      below_then x.last r.first y.first left.1 (at_most_trans r.first r.last y.first order (below_at_most r.last y.first right.1))

  -- without those that meet a range
  pub run_without : IsRun (put_at r [] xs)
  run_without = run_append (before r xs) (behind r xs) (run_filter (λ t. is_below t.last r.first) xs run) (run_filter (λ t. is_below r.last t.first) xs run) across

  -- with outputs in their place
  run_with : (upper lower new : List Table) → hull upper ≡ Some r → ((l : Table) → IsAmong l lower → meets r l ≡ true) → ((l : Table) → IsAmong l lower → IsAmong l xs)
      → IsRun new → AllByRecursion (IsWithin (upper ++ lower)) new → IsRun (put_at r new xs)
  run_with upper lower new is meet among made within =
      run_append (before r xs) (new ++ behind r xs) (run_filter (λ t. is_below t.last r.first) xs run)
      (run_append new (behind r xs) made (run_filter (λ t. is_below r.last t.first) xs run) (λ n y a b. right n y a (passed_among (λ t. is_below r.last t.first) y xs b)))
      (λ x y a b. ⊎_elim (λ n. left x y (passed_among (λ t. is_below t.last r.first) x xs a) n) (λ c. across x y a c) (among_either y new (behind r xs) b))
    where
      false_true : false ≡ true → ⊥
      false_true e = cc

      lone : (x l : Table) → IsAmong x xs → meets r x ≡ false → IsAmong l lower → meets (range_of x) l ≡ false
      lone x l a apart b = other_apart xs run x l a (among l b) (λ e. false_true (sym apart ∙ ap (meets r) e ∙ meet l b))

      left : (x n : Table) → IsAmong x xs × (is_below x.last r.first ≡ true) → IsAmong n new → is_below x.last n.first ≡ true
      left x n p a =
          within_left (range_of x) (upper ++ lower) n (of_all (IsWithin (upper ++ lower)) new within n a)
          (all_right upper lower r (range_of x) is meet (run_order xs run x p.0) (λ l b. lone x l p.0 (apart_left r x p.1) b) p.1)

      right : (n y : Table) → IsAmong n new → IsAmong y xs × (is_below r.last y.first ≡ true) → is_below n.last y.first ≡ true
      right n y a p =
          within_right (range_of y) (upper ++ lower) n (of_all (IsWithin (upper ++ lower)) new within n a)
          (all_left upper lower r (range_of y) is meet (run_order xs run y p.0) (λ l b. lone y l p.0 (apart_right r y p.1) b) p.1)

  -- the same, where a merge reaches that range
  pub run_reached : (upper lower new : List Table) → reach upper lower ≡ Some r → ((l : Table) → IsAmong l lower → meets r l ≡ true) → ((l : Table) → IsAmong l lower → IsAmong l xs)
      → IsRun new → AllByRecursion (IsWithin (upper ++ lower)) new → IsRun (put_at r new xs)
  run_reached [] lower new is meet among made within =
      run_with lower [] new is (λ l a. absurd a) (λ l a. absurd a) made (subst (λ (tables : List Table). AllByRecursion (IsWithin tables) new) (sym (append-nil lower)) within)
  run_reached (t ∷ rest) lower new is meet among made within = run_with (t ∷ rest) lower new is meet among made within

-- ---- the upper tables of a level from 1 to 3

in_meeting : (o : Option KeyRange) (tables : List Table) (x : Table) → IsAmong x (meeting o tables) → IsAmong x tables
in_meeting None tables x a = absurd a
in_meeting (Some r) tables x a = (passed_among (meets r) x tables a).0

-- they are tables of it,
pub upper_among : (levels : Levels) (i : ℕ) (upper : List Table) → IsUpper levels (suc i) upper → (x : Table) → IsAmong x upper → IsAmong x (level levels (suc i))
upper_among levels i upper u x a = in_meeting (hull upper) (level levels (suc i)) x (subst (λ (l : List Table). IsAmong x l) u a)

-- all that meet their hull
pub upper_is : (levels : Levels) (i : ℕ) (upper : List Table) (r : KeyRange) → hull upper ≡ Some r → IsUpper levels (suc i) upper → upper ≡ filter (meets r) (level levels (suc i))
upper_is levels i upper r is u = u ∙ ap (λ (o : Option KeyRange). meeting o (level levels (suc i))) is

-- the upper tables stand in their level
pub upper_there : (levels : Levels) (i : ℕ) (upper : List Table) → IsUpper levels i upper → (x : Table) → IsAmong x upper → IsAmong x (level levels i)
upper_there levels zero [] u x a = absurd a
upper_there levels zero (t ∷ rest) u x a = oldest_among levels.runs (t ∷ rest) u x a
upper_there levels (suc i) upper u x a = upper_among levels i upper u x a

-- a table's range is not empty
pub table_order : (levels : Levels) → AreRuns levels → (k : ℕ) (x : Table) → IsAmong x (level levels k) → at_most x.first x.last ≡ true
table_order levels runs zero x a = by levels.runs runs.runs a
  where
    by : (rs : List (List Table)) → AllByRecursion IsRun rs → IsAmong x (all_tables rs) → at_most x.first x.last ≡ true
    by [] h b = absurd b
    by (run ∷ rest) h b = ⊎_elim (λ c. run_order run h.0 x c) (λ c. by rest h.1 c) (among_either x run (all_tables rest) b)
table_order levels runs (suc i) x a = run_order (level levels (suc i)) (run_at levels runs i) x a

-- nor is what a merge reaches
pub upper_order : (levels : Levels) (bottom : Bool) (i : ℕ) (upper lower : List Table) → AreRuns levels → (h : HasItsTables levels bottom i upper lower) → at_most h.range.first h.range.last ≡ true
upper_order levels bottom i [] lower runs h = hull_order lower h.range h.hull_is (λ x a. table_order levels runs (suc i) x (h.lowers x a))
upper_order levels bottom i (t ∷ rest) lower runs h = hull_order (t ∷ rest) h.range h.hull_is (λ x a. table_order levels runs i x (upper_there levels i (t ∷ rest) h.uppers x a))

length_set : {X : Type 0} (xs : List X) (i : ℕ) (y : X) → length (set xs i y) ≡ length xs
length_set [] i y = refl
length_set (x ∷ xs) zero y = refl
length_set (x ∷ xs) (suc i) y = ap suc (length_set xs i y)

module _ (levels : Levels) (bottom : Bool) (upper lower new : List Table) (runs : AreRuns levels) (made : IsRun new) (within : AllByRecursion (IsWithin (upper ++ lower)) new) where
  rewritten_runs : (i : ℕ) (h : HasItsTables levels bottom i upper lower) → AreRuns (with_level (suc i) h.range new levels)
  rewritten_runs i h = record {
    four = length_set levels.deeper i (put_at h.range new (get_or levels.deeper i [])) ∙ runs.four;
    runs = runs.runs;
    deeper = all_set IsRun levels.deeper i (put_at h.range new (get_or levels.deeper i [])) runs.deeper
        (run_reached h.range (upper_order levels bottom i upper lower runs h) (level levels (suc i)) (run_at levels runs i) upper lower new h.hull_is h.meet h.lowers made within);
    some = runs.some;
  }

  lowered_runs : (i : ℕ) (h : HasItsTables levels bottom i upper lower) → AreRuns (lowered i h.range (length upper) new levels)
  lowered_runs zero h = record {
    four = length_set levels.deeper 0 (put_at h.range new (get_or levels.deeper 0 [])) ∙ runs.four;
    runs = all_newer IsRun (length upper) levels.runs runs.runs;
    deeper = all_set IsRun levels.deeper 0 (put_at h.range new (get_or levels.deeper 0 [])) runs.deeper
        (run_reached h.range (upper_order levels bottom zero upper lower runs h) (level levels 1) (run_at levels runs 0) upper lower new h.hull_is h.meet h.lowers made within);
    some = all_newer (λ run. 0 < length run) (length upper) levels.runs runs.some;
  }
  lowered_runs (suc i) h =
      let r = h.range in
      let order = upper_order levels bottom (suc i) upper lower runs h in
      let lowered = put_at r new (get_or levels.deeper (suc i) []) in
      let mid : List (List Table) = set levels.deeper (suc i) lowered in
      let mids : AllByRecursion IsRun mid = all_set IsRun levels.deeper (suc i) lowered runs.deeper
      (run_reached r order (level levels (suc (suc i))) (run_at levels runs (suc i)) upper lower new h.hull_is h.meet h.lowers made within) in
      record {
        four = length_set mid i (put_at r [] (get_or mid i [])) ∙ length_set levels.deeper (suc i) lowered ∙ runs.four;
        runs = runs.runs;
        deeper = all_set IsRun mid i (put_at r [] (get_or mid i [])) mids (run_without r order (get_or mid i []) (all_or IsRun mid i [] mids tt));
        some = runs.some;
      }

pub replaced_runs : (levels : Levels) (bottom : Bool) (upper lower new : List Table) → AreRuns levels → IsRun new → AllByRecursion (IsWithin (upper ++ lower)) new
    → (i : ℕ) (h : HasItsTables levels bottom i upper lower) → AreRuns (replaced i h.range (length upper) new levels)
replaced_runs levels bottom [] lower new runs made within i h = rewritten_runs levels bottom [] lower new runs made within i h
replaced_runs levels bottom (t ∷ rest) lower new runs made within i h = lowered_runs levels bottom (t ∷ rest) lower new runs made within i h

pub runs_law : RunsLaw
runs_law levels flag Flush new runs held outputs = record { four = runs.four; runs = (outputs.0, runs.runs); deeper = runs.deeper; some = (outputs.1, runs.some) }
runs_law levels flag (Merge i upper lower) new runs held outputs =
    subst (λ (o : Option KeyRange). AreRuns (merged_at i o (length upper) new levels)) (sym held.hull_is) (replaced_runs levels flag upper lower new runs outputs.0 outputs.1 i held)
