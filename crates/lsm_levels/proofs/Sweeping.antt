-- A run that is looked through from its beginning.
use Rattle.std.proofs.Common.{◌≡◌, ℕ, zero, suc, ◌+◌, ◌-◌, ◌<◌, Bool, true, false, cond, not, ◌&&◌, List, [], ◌∷◌, ◌++◌, length, take, drop, get_or, filter, Option, Some, refl, ap, sym, ◌∙◌, subst, arith, append-nil, take_all}
use Rattle.std.proofs.lemmas.List.{drop_more, length-drop}
use Rattle.std.specs.List.{AllByRecursion, list_all}
use Rattle.lsm_codec.specs.Keys.{Bytes}
use Rattle.lsm_levels.specs.Tables.{Table, IsRun, at_most, is_below, meets, range_of}
use Rattle.lsm_levels.specs.Pick.{Job, can_merge, is_free, is_input, least_numbered}
use Rattle.lsm_levels.specs.Picks.{is_less}
use Rattle.lsm_levels.proofs.CursorBlocks.{filter_passes}
use Rattle.lsm_levels.proofs.KeyOrder.{at_most_itself, at_most_trans, at_most_turned, below_at_most, below_not, not_below, then_below}
use Rattle.lsm_levels.proofs.Least.{step_fails, step_stays, step_taken, with_rest}
use Rattle.lsm_codec.proofs.Lists.{all_map, filter_all, filter_none, filter_step}
use Rattle.lsm_levels.proofs.Ranges.{no}
use Rattle.lsm_levels.proofs.Runs.{run_filter}
use Rattle.lsm_levels.proofs.Searching.{filter_twice, run_ranges}

pub run_left : (n : ℕ) (run : List Table) → IsRun run → IsRun (drop n run)
run_left zero run r = r
run_left (suc n) [] r = tt
run_left (suc n) (t ∷ rest) r = run_left n rest r.2

-- the tables after one begin after its end
behind : (t : Table) (rest : List Table) → IsRun (t ∷ rest) → AllByRecursion (λ u. at_most t.last u.first ≡ true) rest
behind t rest r = all_map (λ u h. below_at_most t.last u.first h) rest r.1

ends_behind : (t : Table) (rest : List Table) → IsRun (t ∷ rest) → AllByRecursion (λ u. at_most t.last u.last ≡ true) rest
ends_behind t rest r = by rest (behind t rest r) (run_ranges rest r.2)
  where
    by : (us : List Table) → AllByRecursion (λ u. at_most t.last u.first ≡ true) us → AllByRecursion (λ u. at_most u.first u.last ≡ true) us → AllByRecursion (λ u. at_most t.last u.last ≡ true) us
    by [] h k = tt
    by (u ∷ us) h k = (at_most_trans t.last u.first u.last h.0 k.0, by us h.1 k.1)

-- ---- tables that end on a key or after it

abbrev ends_on : Bytes → Table → Bool
ends_on key t = at_most key t.last

pub one_passed : (key : Bytes) (run : List Table) (i : ℕ) (t : Table) → i < length run → t ≡ get_or run i t → is_below t.last key ≡ true
    → filter (ends_on key) (drop i run) ≡ filter (ends_on key) run → filter (ends_on key) (drop (i + 1) run) ≡ filter (ends_on key) run
one_passed key run i t lt is ended same =
    let here : drop i run ≡ t ∷ drop (i + 1) run = drop_more run i t lt ∙ ap (λ (u : Table). u ∷ drop (i + 1) run) (sym is) in
    sym (filter_step (ends_on key) t (drop (i + 1) run) false (at_most_turned t.last key ∙ ap not ended)) ∙ ap (filter (ends_on key)) (sym here) ∙ same

pub all_left : (key : Bytes) (run : List Table) (i : ℕ) (t : Table) → IsRun run → i < length run → t ≡ get_or run i t → is_below t.last key ≡ false
    → filter (ends_on key) (drop i run) ≡ filter (ends_on key) run → take (length run - i) (drop i run) ≡ filter (ends_on key) run
all_left key run i t r lt is not_ended same =
    let here : drop i run ≡ t ∷ drop (i + 1) run = drop_more run i t lt ∙ ap (λ (u : Table). u ∷ drop (i + 1) run) (sym is) in
    let left : IsRun (t ∷ drop (i + 1) run) = subst IsRun here (run_left i run r) in
    let at : at_most key t.last ≡ true = at_most_turned t.last key ∙ ap not not_ended in
    let whole : filter (ends_on key) (t ∷ drop (i + 1) run) ≡ t ∷ drop (i + 1) run = filter_all (ends_on key) (t ∷ drop (i + 1) run) (at, all_map (λ u h. at_most_trans key t.last u.last at h) (drop (i + 1) run) (ends_behind t (drop (i + 1) run) left)) in
    take_all (length run - i) (drop i run) (omega (arith, length-drop i run)) ∙ here ∙ sym whole ∙ ap (filter (ends_on key)) (sym here) ∙ same

-- what is left of a run after a table's first key
module _ (t : Table) (key : Bytes) (rest next : List Table) (first : key ≡ t.first) (left : next ≡ filter (ends_on key) rest) where
  pub left_of_first : next ≡ filter (ends_on t.first) rest
  left_of_first = left ∙ ap (λ (k : Bytes). filter (ends_on k) rest) first

  pub left_run : IsRun rest → IsRun next
  left_run r = subst IsRun (sym left) (run_filter (ends_on key) rest r)

  pub left_ends : AllByRecursion (λ u. at_most t.first u.last ≡ true) next
  left_ends = subst (AllByRecursion (λ u. at_most t.first u.last ≡ true)) (sym left_of_first) (filter_passes (ends_on t.first) rest)

-- ---- tables that begin at a key or before it

abbrev begins_by : Bytes → Table → Bool
begins_by key t = at_most t.first key

pub none_left_begun : (key : Bytes) (run : List Table) (i : ℕ) (t : Table) → IsRun run → i < length run → t ≡ get_or run i t → at_most t.first key ≡ false
    → filter (begins_by key) run ≡ take i run ++ filter (begins_by key) (drop i run) → take i run ≡ filter (begins_by key) run
none_left_begun key run i t r lt is not_begun same =
    let here : drop i run ≡ t ∷ drop (i + 1) run = drop_more run i t lt ∙ ap (λ (u : Table). u ∷ drop (i + 1) run) (sym is) in
    let left : IsRun (t ∷ drop (i + 1) run) = subst IsRun here (run_left i run r) in
    let after : is_below key t.first ≡ true = not_below key t.first not_begun in
    let none : filter (begins_by key) (t ∷ drop (i + 1) run) ≡ [] = filter_none (begins_by key) (t ∷ drop (i + 1) run)
    (not_begun, all_map (λ u h. below_not key u.first (then_below key t.last u.first (at_most_trans key t.first t.last (below_at_most key t.first after) left.0) h)) (drop (i + 1) run) left.1) in
    sym (same ∙ ap (λ (xs : List Table). take i run ++ xs) (ap (filter (begins_by key)) here ∙ none) ∙ append-nil (take i run))

-- ---- the tables that a table meets

-- of tables that end on its first key or after it, those that begin by its last one
pub meets_begun : (t : Table) (rest : List Table) → AllByRecursion (λ u. at_most t.first u.last ≡ true) rest → filter (meets (range_of t)) rest ≡ filter (begins_by t.last) rest
meets_begun t [] h = refl
meets_begun t (u ∷ rest) h = by (meets_begun t rest h.1) (at_most t.first u.last) h.0
  where
    by : filter (meets (range_of t)) rest ≡ filter (begins_by t.last) rest → (b : Bool) → b ≡ true → cond (b && at_most u.first t.last) (u ∷ filter (meets (range_of t)) rest) (filter (meets (range_of t)) rest) ≡ cond (at_most u.first t.last) (u ∷ filter (begins_by t.last) rest) (filter (begins_by t.last) rest)
    by more true e = ap (λ (xs : List Table). cond (at_most u.first t.last) (u ∷ xs) xs) more
    by more false e = absurd (no (sym e))

-- a table that no job has may be merged where those that it meets are free
pub may_merge : (jobs : List Job) (t : Table) (rest found : List Table) (number : ℕ) (last : Bytes) (held free : Bool) → number ≡ t.number → held ≡ is_input jobs number → held ≡ false → last ≡ t.last
    → AllByRecursion (λ u. at_most t.first u.last ≡ true) rest → found ≡ filter (begins_by last) rest → free ≡ list_all (is_free jobs) found → free ≡ can_merge jobs (t ∷ []) rest
may_merge jobs t rest found number last held free n h none l behind m e =
    let input : is_input jobs t.number ≡ false = ap (is_input jobs) (sym n) ∙ sym h ∙ none in
    let met : found ≡ filter (meets (range_of t)) rest = m ∙ ap (λ (k : Bytes). filter (begins_by k) rest) l ∙ sym (meets_begun t rest behind) in
    e ∙ ap (list_all (is_free jobs)) met ∙ sym (ap (λ (b : Bool). (not b && true) && list_all (is_free jobs) (filter (meets (range_of t)) rest)) input)

-- those that end before a key are met by no table that begins at it or after
pub meets_left : (key : Bytes) (u : Table) (rest : List Table) → at_most key u.first ≡ true → filter (meets (range_of u)) (filter (ends_on key) rest) ≡ filter (meets (range_of u)) rest
meets_left key u rest h = filter_twice (ends_on key) (meets (range_of u)) rest ∙ by rest
  where
    one : (x : Table) (b : Bool) → at_most key x.last ≡ b → (b && meets (range_of u) x) ≡ meets (range_of u) x
    one x true e = refl
    one x false e = sym (ap (λ (c : Bool). c && at_most x.first u.last) (not_met (at_most u.first x.last) refl))
      where
        not_met : (c : Bool) → at_most u.first x.last ≡ c → at_most u.first x.last ≡ false
        not_met false f = f
        not_met true f = absurd (no (sym (at_most_trans key u.first x.last h f) ∙ e))

    by : (xs : List Table) → filter (λ x. ends_on key x && meets (range_of u) x) xs ≡ filter (meets (range_of u)) xs
    by [] = refl
    by (x ∷ xs) = ap (λ (b : Bool). cond b (x ∷ filter (λ y. ends_on key y && meets (range_of u) y) xs) (filter (λ y. ends_on key y && meets (range_of u) y) xs)) (one x (at_most key x.last) refl)
        ∙ ap (λ (ys : List Table). cond (meets (range_of u) x) (x ∷ ys) ys) (by xs)

module _ (jobs : List Job) (wanted : Table → Bool) where
  abbrev may : List Table → Table → Bool
  may below t = wanted t && can_merge jobs (t ∷ []) below

  -- so it is with all tables from one of a run on
  same_merges : (key : Bytes) (rest tables : List Table) → AllByRecursion (λ u. at_most key u.first ≡ true) tables → filter (may (filter (ends_on key) rest)) tables ≡ filter (may rest) tables
  same_merges key rest [] h = refl
  same_merges key rest (u ∷ us) h =
      ap (λ (xs : List Table). cond (wanted u && ((is_free jobs u && true) && list_all (is_free jobs) xs)) (u ∷ filter (may (filter (ends_on key) rest)) us) (filter (may (filter (ends_on key) rest)) us)) (meets_left key u rest h.0)
      ∙ ap (λ (ys : List Table). cond (may rest u) (u ∷ ys) ys) (same_merges key rest us h.1)

  from_first : (t : Table) (us : List Table) → IsRun (t ∷ us) → AllByRecursion (λ u. at_most t.first u.first ≡ true) us
  from_first t us r = all_map (λ u h. at_most_trans t.first t.last u.first r.0 h) us (behind t us r)

  lesser_step : (p : Table → Bool) (o : Option Table) (t : Table) (us : List Table) → with_rest (cond (is_less t o && p t) (Some t) o) (least_numbered (filter p us)) ≡ with_rest o (least_numbered (filter p (t ∷ us)))
  lesser_step p o t us = by (is_less t o) (p t) refl refl
    where
      by : (a b : Bool) → is_less t o ≡ a → p t ≡ b → with_rest (cond (a && b) (Some t) o) (least_numbered (filter p us)) ≡ with_rest o (least_numbered (filter p (t ∷ us)))
      by true true e f = step_taken p o t us e f
      by true false e f = step_fails p o t us f
      by false b e f = step_stays p o t us e

  -- one table more
  pub least_step : (tables below rest next : List Table) (i : ℕ) (t : Table) (o least : Option Table) → IsRun tables → i < length tables → t ≡ get_or tables i t → next ≡ filter (ends_on t.first) rest
      → least ≡ cond (is_less t o && may next t) (Some t) o
      → with_rest o (least_numbered (filter (may rest) (drop i tables))) ≡ least_numbered (filter (may below) tables)
      → with_rest least (least_numbered (filter (may next) (drop (i + 1) tables))) ≡ least_numbered (filter (may below) tables)
  least_step tables below rest next i t o least r lt is left picked same =
      let us : List Table = drop (i + 1) tables in
      let here : drop i tables ≡ t ∷ us = drop_more tables i t lt ∙ ap (λ (u : Table). u ∷ us) (sym is) in
      let run : IsRun (t ∷ us) = subst IsRun here (run_left i tables r) in
      let first : at_most t.first t.first ≡ true = at_most_itself t.first in
      let merges : filter (may next) (t ∷ us) ≡ filter (may rest) (t ∷ us) = ap (λ (xs : List Table). filter (may xs) (t ∷ us)) left ∙ same_merges t.first rest (t ∷ us) (first, from_first t us run) in
      ap (λ (l : Option Table). with_rest l (least_numbered (filter (may next) us))) picked
      ∙ lesser_step (may next) o t us
      ∙ ap (λ (xs : List Table). with_rest o (least_numbered xs)) (merges ∙ ap (filter (may rest)) (sym here))
      ∙ same
