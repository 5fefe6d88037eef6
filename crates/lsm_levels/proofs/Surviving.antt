-- A job keeps its tables while others install.
use Rattle.std.proofs.Common.{◌≡◌, ◌⊎◌, inl, inr, ⊎_elim, ℕ, zero, suc, ◌<◌, ◌≤◌, ◌==◌, Bool, true, false, ◌&&◌, ◌||◌, ltb, List, [], ◌∷◌, ◌++◌, length, Option, Some, None, refl, sym, ap, ◌∙◌, subst, arith}
use Rattle.std.specs.List.{AllByRecursion}
use Rattle.std.proofs.lemmas.Bool.{cases_lt, lt-ltb}
use Rattle.lsm_levels.specs.Among.{IsAmong}
use Rattle.lsm_levels.proofs.Members.{among_left, among_right, among_either}
use Rattle.lsm_levels.specs.Tables.{Table, KeyRange, range_of, at_most, is_below, hull, meets, meeting, IsRun}
use Rattle.lsm_levels.specs.Levels.{Levels, level, flushed, merged_at, replaced, reach}
use Rattle.lsm_levels.specs.Pick.{Flush, Merge, are_several}
use Rattle.lsm_levels.specs.Held.{AreOldest, AreRuns, IsUpper, HasItsTables, AreApart, IsWithin, SurvivalLaw}
use Rattle.lsm_levels.proofs.Ranges.{no, of_all, sides, run_order, other_apart}
use Rattle.lsm_levels.proofs.HullLaws.{hull_order, beside_output, beside_hull}
use Rattle.lsm_levels.proofs.OldestRuns.{oldest_among, oldest_share}
use Rattle.lsm_levels.proofs.Replacing.{after_cases, stays_after}
use Rattle.lsm_levels.proofs.Runs.{run_at, table_order, upper_among, replaced_runs}
use Rattle.lsm_levels.proofs.TablesMet.{one_met}

some_same : (a b : KeyRange) → Some a ≡ Some b → a ≡ b
some_same a b e = cc

none_some : (a : KeyRange) → None ≡ Some a → ⊥
none_some a e = cc

-- where a test would be met there is a contradiction
not_met : (b : Bool) → (b ≡ true → ⊥) → b ≡ false
not_met true h = absurd (h refl)
not_met false h = refl

-- a table whose range a hull is of
single_range : (t : Table) (upper : List Table) (r : KeyRange) → upper ≡ t ∷ [] → hull upper ≡ Some r → r ≡ range_of t
single_range t upper r single is = sym (some_same (range_of t) r (sym (ap hull single) ∙ is))

-- of a merge that takes no several tables: they are the oldest runs of level 0, or one table of another level
abbrev IsSingle : Levels → ℕ → List Table → Type 0
IsSingle levels zero upper = AreOldest levels.runs upper
IsSingle levels (suc i) upper = (t : Table) × (upper ≡ t ∷ []) × IsAmong t (level levels (suc i))

to_single : (levels : Levels) (i : ℕ) (upper : List Table) (r : KeyRange) → hull upper ≡ Some r → are_several i upper ≡ false → IsUpper levels i upper → IsSingle levels i upper
to_single levels zero [] r is few u = absurd (none_some r is)
to_single levels zero (t ∷ rest) r is few u = u
to_single levels (suc i) [] r is few u = absurd (none_some r is)
to_single levels (suc i) (t ∷ []) r is few u = (t, refl, upper_among levels i (t ∷ []) u t (inl refl))
to_single levels (suc i) (t ∷ v ∷ rest) r is few u = absurd (no (sym (either (length (t ∷ v ∷ rest) == 0) _ (both (ltb 0 (suc i)) (ltb 1 (length (t ∷ v ∷ rest))) (lt-ltb 0 (suc i) (omega arith)) (lt-ltb 1 (length (t ∷ v ∷ rest)) (omega arith)))) ∙ few))
  where
    both : (a b : Bool) → a ≡ true → b ≡ true → (a && b) ≡ true
    both a b e f = ap (λ x. x && b) e ∙ f

    either : (a b : Bool) → b ≡ true → (a || b) ≡ true
    either true b e = refl
    either false b e = e

-- a merge with which another may run has upper tables
has_upper : (i : ℕ) (upper lower : List Table) (r : KeyRange) → are_several i upper ≡ false → reach upper lower ≡ Some r → hull upper ≡ Some r
has_upper i [] lower r few is = absurd (no few)
has_upper i (t ∷ rest) lower r few is = is

from_single : (levels : Levels) → AreRuns levels → (i : ℕ) (upper : List Table) → IsSingle levels i upper → IsUpper levels i upper
from_single levels runs zero [] u = tt
from_single levels runs zero (t ∷ rest) u = u
from_single levels runs (suc i) upper u =
    subst (λ (l : List Table). l ≡ meeting (hull l) (level levels (suc i))) (sym u.1) (one_met (level levels (suc i)) u.0 (run_at levels runs i) u.2)

module _ (levels : Levels) (runs : AreRuns levels) (bottom flag : Bool) (i j : ℕ) (upper lower other_upper other_lower : List Table)
    (h : HasItsTables levels bottom i upper lower) (c : HasItsTables levels flag j other_upper other_lower) (apart : AreApart (Merge i upper lower) (Merge j other_upper other_lower)) where
  -- neither takes several tables, or none
  mine_few : are_several i upper ≡ false
  mine_few = not_met (are_several i upper) (λ e. no (sym (apart.alone e)))

  theirs_few : are_several j other_upper ≡ false
  theirs_few = not_met (are_several j other_upper) (λ e. no (sym (apart.others_alone e)))

  mine_hull : hull upper ≡ Some h.range
  mine_hull = has_upper i upper lower h.range mine_few h.hull_is

  theirs_hull : hull other_upper ≡ Some c.range
  theirs_hull = has_upper j other_upper other_lower c.range theirs_few c.hull_is

  mine_at : IsSingle levels i upper
  mine_at = to_single levels i upper h.range mine_hull mine_few h.uppers

  theirs_at : IsSingle levels j other_upper
  theirs_at = to_single levels j other_upper c.range theirs_hull theirs_few c.uppers

  -- no input of the one is an input of the other
  abbrev Mine : Table → Type 0
  Mine t = IsAmong t (upper ++ lower)

  abbrev Others : Table → Type 0
  Others t = IsAmong t (other_upper ++ other_lower)

  distinct : (t u : Table) → Mine t → Others u → t ≡ u → ⊥
  distinct t u a b e = apart.tables t u a b (ap (λ (x : Table). x.number) e)

  shared : (t : Table) → Mine t → Others t → ⊥
  shared t a b = distinct t t a b refl

  -- not both are of level 0
  not_both : i ≡ 0 → j ≡ 0 → ⊥
  not_both e f =
      let t = oldest_share levels.runs upper other_upper runs.some (oldest i e upper mine_at) (oldest j f other_upper theirs_at) in
      shared t.0 (among_left t.0 upper lower t.1) (among_left t.0 other_upper other_lower t.2)
    where
      oldest : (n : ℕ) → n ≡ 0 → (tables : List Table) → IsSingle levels n tables → AreOldest levels.runs tables
      oldest zero e tables u = u
      oldest (suc n) e tables u = absurd (omega (arith, e))

  -- the one table of a level that a merge takes
  abbrev IsOne : ℕ → Table → List Table → Type 0
  IsOne n t tables = (tables ≡ t ∷ []) × IsAmong t (level levels n)

  one_table : (n : ℕ) → 1 ≤ n → (tables : List Table) → IsSingle levels n tables → (t : Table) × IsOne n t tables
  one_table zero le tables u = absurd (omega (arith, le))
  one_table (suc n) le tables u = (u.0, (u.1, u.2))

  run_of : (n : ℕ) → 1 ≤ n → IsRun (level levels n)
  run_of zero le = absurd (omega (arith, le))
  run_of (suc n) le = run_at levels runs n

  in_one : (t : Table) (tables : List Table) → tables ≡ t ∷ [] → IsAmong t tables
  in_one t tables e = subst (λ (l : List Table). IsAmong t l) (sym e) (inl refl)

  -- ---- the other's upper table, at a level of 1 to 3

  module _ (deep : 1 ≤ j) where
    theirs : (t : Table) × IsOne j t other_upper
    theirs = one_table j deep other_upper theirs_at

    abbrev it : Table
    it = theirs.0

    its_range : c.range ≡ range_of it
    its_range = single_range it other_upper c.range theirs.1.0 theirs_hull

    it_in : Others it
    it_in = among_left it other_upper other_lower (in_one it other_upper theirs.1.0)

    -- a table of mine in that level isn't met
    beside_it : (t : Table) → Mine t → IsAmong t (level levels j) → meets c.range t ≡ false
    beside_it t a at =
        subst (λ (r : KeyRange). meets r t ≡ false) (sym its_range)
        (other_apart (level levels j) (run_of j deep) it t theirs.1.1 at (λ e. distinct t it a it_in (sym e)))

  -- a table of mine in the other's output level isn't met
  not_taken : (t : Table) → Mine t → IsAmong t (level levels (suc j)) → meets c.range t ≡ false
  not_taken t a at = not_met (meets c.range t) (λ met. shared t a (among_right t other_upper other_lower (c.all t at met)))

  -- ---- what survives

  stays : (k : ℕ) (t : Table) → Mine t → IsAmong t (level levels k) → (new : List Table) → (k ≡ 0 → j ≡ 0 → ⊥) → IsAmong t (level (replaced j c.range (length other_upper) new levels) k)
  stays k t a at new fine =
      stays_after c.range (length other_upper) new levels runs.four j c.known k t at
      (λ e. not_taken t a (subst (λ n. IsAmong t (level levels n)) e at))
      (λ e deep. beside_it deep t a (subst (λ n. IsAmong t (level levels n)) e at))
      (λ e f. absurd (fine e f))

  module _ (new : List Table) (made : IsRun new) (within : AllByRecursion (IsWithin (other_upper ++ other_lower)) new) where
    abbrev after : Levels
    after = replaced j c.range (length other_upper) new levels

    runs_same : (n : ℕ) → 1 ≤ n → (r : KeyRange) (tables : ℕ) → (replaced n r tables new levels).runs ≡ levels.runs
    runs_same zero le r tables = absurd (omega (arith, le))
    runs_same (suc n) le r zero = refl
    runs_same (suc n) le r (suc tables) = refl

    uppers_after : (n : ℕ) → n ≡ i → IsSingle levels n upper → IsSingle after n upper
    uppers_after zero e u = ⊎_elim
        (λ (none : j ≡ 0). absurd (not_both (sym e) none))
        (λ (deep : 1 ≤ j). subst (λ (rs : List (List Table)). AreOldest rs upper) (sym (runs_same j deep c.range (length other_upper))) u)
        (zero_or_more j)
      where
        zero_or_more : (n : ℕ) → (n ≡ 0) ⊎ (1 ≤ n)
        zero_or_more zero = inl refl
        zero_or_more (suc n) = inr (omega arith)
    uppers_after (suc n) e u = (u.0, u.1, stays (suc n) u.0 (among_left u.0 upper lower (in_one u.0 upper u.1)) u.2 new (λ f g. omega (arith, f)))

    -- an output lies apart from a range that lies apart from the other's inputs
    outputs_beside : (q : KeyRange) → at_most q.first q.last ≡ true → (is_below q.last c.range.first ≡ true) ⊎ (is_below c.range.last q.first ≡ true) → ((l : Table) → IsAmong l other_lower → meets q l ≡ false)
        → (n : Table) → IsAmong n new → meets q n ≡ false
    outputs_beside q order side lone n a =
        beside_output other_upper other_lower c.range q theirs_hull c.meet order lone side n (of_all (IsWithin (other_upper ++ other_lower)) new within n a)

    -- an output in my output level: my upper table lies in the other's upper level, next to its own
    beside_mine : i ≡ j → (n : Table) → IsAmong n new → meets h.range n ≡ false
    beside_mine e n a =
        let deep : 1 ≤ j = nonzero j (λ f. not_both (e ∙ f) f) in
        let mine = one_table i (subst (λ m. 1 ≤ m) (sym e) deep) upper mine_at in
        let t = mine.0 in
        let range : h.range ≡ range_of t = single_range t upper h.range mine.1.0 mine_hull in
        let at : IsAmong t (level levels j) = subst (λ m. IsAmong t (level levels m)) e mine.1.1 in
        let own : Mine t = among_left t upper lower (in_one t upper mine.1.0) in
        subst (λ (r : KeyRange). meets r n ≡ false) (sym range)
        (outputs_beside (range_of t) (run_order (level levels j) (run_of j deep) t at)
        (⊎_elim (λ s. inl s) (λ s. inr s) (sides c.range t (beside_it deep t own at)))
        (λ l b. not_met (meets (range_of t) l) (λ met.
        shared l
        (among_right l upper lower (h.all l (subst (λ m. IsAmong l (level levels (suc m))) (sym e) (c.lowers l b)) (subst (λ (r : KeyRange). meets r l ≡ true) (sym range) met)))
        (among_right l other_upper other_lower b)))
        n a)
      where
        nonzero : (m : ℕ) → (m ≡ 0 → ⊥) → 1 ≤ m
        nonzero zero f = absurd (f refl)
        nonzero (suc m) f = omega arith

    -- an output below my output level
    below_mine : bottom ≡ true → suc i < suc j → (whole : KeyRange) → hull (upper ++ lower) ≡ Some whole → at_most whole.first whole.last ≡ true → (n : Table) → IsAmong n new → meets whole n ≡ false
    below_mine lowest deeper whole is order n a =
        let deep : 1 ≤ j = omega (arith, deeper) in
        outputs_beside whole order
        (subst (λ (r : KeyRange). (is_below whole.last r.first ≡ true) ⊎ (is_below r.last whole.first ≡ true)) (sym (its_range deep)) (beside deep))
        (λ l b. h.lowest lowest (suc j) l whole (omega (arith, deeper)) (c.lowers l b) is)
        n a
      where
        turn : (deep : 1 ≤ j) → (is_below (range_of (it deep)).last whole.first ≡ true) ⊎ (is_below whole.last (range_of (it deep)).first ≡ true)
            → (is_below whole.last (range_of (it deep)).first ≡ true) ⊎ (is_below (range_of (it deep)).last whole.first ≡ true)
        turn deep s = ⊎_elim (λ a. inr a) (λ b. inl b) s

        beside : (deep : 1 ≤ j) → (is_below whole.last (range_of (it deep)).first ≡ true) ⊎ (is_below (range_of (it deep)).last whole.first ≡ true)
        beside deep = ⊎_elim
            -- it lies in my output level, and is no input of mine
            (λ (e : j ≡ suc i).
            let t = it deep in
            let at : IsAmong t (level levels (suc i)) = subst (λ m. IsAmong t (level levels m)) e (theirs deep).1.1 in
            let run = run_at levels runs i in
            let lone : meets h.range t ≡ false = not_met (meets h.range t) (λ met. shared t (among_right t upper lower (h.all t at met)) (it_in deep)) in
            turn deep (beside_hull upper lower h.range (range_of t) mine_hull h.meet (run_order (level levels (suc i)) run t at)
            (λ l b. other_apart (level levels (suc i)) run t l at (h.lowers l b) (λ s. distinct l t (among_right l upper lower b) (it_in deep) (sym s)))
            (sides h.range t lone) whole is))
            -- or below it
            (λ (further : suc i < j).
            let t = it deep in
            ⊎_elim (λ s. inr s) (λ s. inl s) (sides whole t (h.lowest lowest j t whole further (theirs deep).1.1 is)))
            (one_or_more (omega (arith, deeper)))
          where
            one_or_more : suc i ≤ j → (j ≡ suc i) ⊎ (suc i < j)
            one_or_more le = ⊎_elim (λ s. inr s) (λ (ge : j ≤ suc i). inl (let e : j ≡ suc i = omega (arith, le, ge) in e)) (cases_lt (suc i) j)

    whole_order : (whole : KeyRange) → hull (upper ++ lower) ≡ Some whole → at_most whole.first whole.last ≡ true
    whole_order whole is = hull_order (upper ++ lower) whole is (λ x a. ⊎_elim (λ b. of_upper i mine_at x b) (λ b. run_order (level levels (suc i)) (run_at levels runs i) x (h.lowers x b)) (either x a))
      where
        either : (x : Table) → IsAmong x (upper ++ lower) → IsAmong x upper ⊎ IsAmong x lower
        either x a = among_either x upper lower a

        of_upper : (n : ℕ) → IsSingle levels n upper → (x : Table) → IsAmong x upper → at_most x.first x.last ≡ true
        of_upper zero u x a = table_order levels runs 0 x (oldest_among levels.runs upper u x a)
        of_upper (suc n) u x a =
            ⊎_elim (λ e. subst (λ (y : Table). at_most y.first y.last ≡ true) (sym e) (run_order (level levels (suc n)) (run_at levels runs n) u.0 u.2)) (λ none. absurd none) (subst (IsAmong x) u.1 a)

    pub merge_survives : HasItsTables after bottom i upper lower
    merge_survives = record {
      known = h.known;
      range = h.range;
      hull_is = h.hull_is;
      uppers = from_single after (replaced_runs levels flag other_upper other_lower new runs made within j c) i upper (uppers_after i refl mine_at);
      lowers = λ t a. stays (suc i) t (among_right t upper lower a) (h.lowers t a) new (λ e f. omega (arith, e));
      lower_run = h.lower_run;
      meet = h.meet;
      all = λ t a met. ⊎_elim
          (λ old. h.all t old met)
          (λ made. absurd (no (sym met ∙ beside_mine (let e : i ≡ j = omega (arith, made.0) in e) t made.1)))
          (after_cases c.range (length other_upper) new levels runs.four j c.known (suc i) t a);
      lowest = λ lowest k t whole deeper a is. ⊎_elim
          (λ old. h.lowest lowest k t whole deeper old is)
          (λ made. below_mine lowest (omega (arith, deeper, made.0)) whole is (whole_order whole is) t made.1)
          (after_cases c.range (length other_upper) new levels runs.four j c.known k t a);
    }

-- a flush is taken from no level
flush_survives : (levels : Levels) (bottom : Bool) (i : ℕ) (upper lower new : List Table) → HasItsTables levels bottom i upper lower → HasItsTables (flushed new levels) bottom i upper lower
flush_survives levels bottom i upper lower new h = record {
  known = h.known;
  range = h.range;
  hull_is = h.hull_is;
  uppers = by i h.uppers;
  lowers = h.lowers;
  lower_run = h.lower_run;
  meet = h.meet;
  all = h.all;
  lowest = λ lowest k t whole deeper a is. below k t whole deeper a lowest is;
}
  where
    oldest : (tables : List Table) → IsUpper levels zero tables → IsUpper (flushed new levels) zero tables
    oldest [] u = tt
    oldest (t ∷ rest) u = record { newer = new ∷ u.newer; oldest = u.oldest; split = ap (λ (rs : List (List Table)). new ∷ rs) u.split; one = u.one; all = u.all }

    by : (n : ℕ) → IsUpper levels n upper → IsUpper (flushed new levels) n upper
    by zero u = oldest upper u
    by (suc n) u = u

    below : (k : ℕ) (t : Table) (whole : KeyRange) → suc i < k → IsAmong t (level (flushed new levels) k) → bottom ≡ true → hull (upper ++ lower) ≡ Some whole → meets whole t ≡ false
    below zero t whole deeper a lowest is = absurd (omega (arith, deeper))
    below (suc m) t whole deeper a lowest is = h.lowest lowest (suc m) t whole deeper a is

pub survival_law : SurvivalLaw
survival_law levels bottom flag Flush other new runs held other_held apart outputs = held
survival_law levels bottom flag (Merge i upper lower) Flush new runs held other_held apart outputs = flush_survives levels bottom i upper lower new held
survival_law levels bottom flag (Merge i upper lower) (Merge j other_upper other_lower) new runs held other_held apart outputs =
    subst (λ (o : Option KeyRange). HasItsTables (merged_at j o (length other_upper) new levels) bottom i upper lower) (sym other_held.hull_is)
    (merge_survives levels runs bottom flag i j upper lower other_upper other_lower held other_held apart new outputs.0 outputs.1)
