-- A job that is picked has its tables, and no other job has them as input.
use Rattle.std.proofs.Common.{◌≡◌, ◌≢◌, inl, inr, ⊎_elim, ℕ, zero, suc, ◌<◌, ◌≤◌, Bool, true, false, cond, not, ◌&&◌, ◌||◌, ◌==◌, leb, ltb, List, [], ◌∷◌, ◌++◌, length, get_or, filter, sum_by, Option, Some, None, option_map, refl, sym, ap, ◌∙◌, subst, arith}
use Rattle.std.proofs.lemmas.Bool.{leb-true, eq-eqb, ne_eqb}
use Rattle.std.specs.List.{list_any, list_all}
use Rattle.lsm_levels.specs.Among.{IsAmong}
use Rattle.lsm_levels.proofs.Members.{among_left, among_right, among_either, among_passed, passed_among, any_of}
use Rattle.lsm_levels.specs.Tables.{Table, KeyRange, range_of, spanned, hull, meets, meeting, IsRun}
use Rattle.lsm_levels.specs.Levels.{Levels, all_tables, level, oldest_runs, reach}
use Rattle.lsm_levels.specs.Pick.{Job, Flush, Merge, inputs, is_flush, is_merge, is_several, are_several, is_of_level_0, is_input, is_free, lower_of, can_merge, merge_of, least_numbered, lesser, flush_job, level_0_job, is_mostly_deletes, least_job, delete_job, level_job, limit_of, or_next, of_least_level, next_merge, pick, below_output, meets_none, is_bottom}
use Rattle.lsm_levels.specs.Held.{AreRuns, AreOldest, IsUpper, HasItsTables, AreApart, MayTake, PickLaw}
use Rattle.lsm_levels.proofs.Ranges.{no}
use Rattle.lsm_levels.proofs.OldestRuns.{oldest_are, oldest_some}
use Rattle.lsm_levels.proofs.Runs.{run_at, run_filter}
use Rattle.lsm_levels.proofs.TablesMet.{one_met}

pub in_both : (a b : Bool) → (a && b) ≡ true → (a ≡ true) × (b ≡ true)
in_both true b h = (refl, h)
in_both false b h = absurd cc

pub not_true : (b : Bool) → not b ≡ true → b ≡ false
not_true true h = absurd cc
not_true false h = refl

pub some_job : (a b : Job) → Some a ≡ Some b → a ≡ b
some_job a b e = cc

some_range : (a b : KeyRange) → Some a ≡ Some b → a ≡ b
some_range a b e = cc

some_table : (a b : Table) → Some a ≡ Some b → a ≡ b
some_table a b e = cc

none_job : (a : Job) → None ≡ Some a → ⊥
none_job a e = cc

none_table : (a : Table) → None ≡ Some a → ⊥
none_table a e = cc

-- what a test that holds gives
pub taken : (b : Bool) (job : Job) (o : Option Job) → cond b o None ≡ Some job → (b ≡ true) × (o ≡ Some job)
taken true job o e = (refl, e)
taken false job o e = absurd (none_job job e)

-- or one that doesn't
barred : (b : Bool) (job : Job) (o : Option Job) → cond b None o ≡ Some job → (b ≡ false) × (o ≡ Some job)
barred true job o e = absurd (none_job job e)
barred false job o e = (refl, e)

one_few : (b : Bool) → (b && false) ≡ false
one_few true = refl
one_few false = refl

module _ {X : Type 0} where
  all_pass : (p : X → Bool) (xs : List X) → list_all p xs ≡ true → (x : X) → IsAmong x xs → p x ≡ true
  all_pass p [] h x a = absurd a
  all_pass p (y ∷ xs) h x (inl e) = ap p e ∙ (in_both (p y) (list_all p xs) h).0
  all_pass p (y ∷ xs) h x (inr a) = all_pass p xs (in_both (p y) (list_all p xs) h).1 x a

-- ---- what the parts of a choice tell

pub get_or_any : {X : Type 0} (xs : List X) (i : ℕ) (d e : X) → i < length xs → get_or xs i d ≡ get_or xs i e
get_or_any [] i d e lt = absurd (omega (arith, lt))
get_or_any (x ∷ xs) zero d e lt = refl
get_or_any (x ∷ xs) (suc i) d e lt = get_or_any xs i d e (omega (arith, lt))

waits : (waiting had : Bool) (next : Option Job) → waiting ≡ true → had ≡ false → Some Flush ≡ or_next (cond (waiting && not had) (Some Flush) None) next
waits true true next w h = absurd (no h)
waits true false next w h = refl
waits false had next w h = absurd (no (sym w))

pub flush_first : (waiting had : Bool) (levels : Levels) (jobs : List Job) → waiting ≡ true → had ≡ list_any is_flush jobs → had ≡ false → Some Flush ≡ pick waiting levels jobs
flush_first waiting had levels jobs w h none = waits waiting (list_any is_flush jobs) _ w (sym h ∙ none)

waits_not : (waiting had : Bool) → waiting ≡ false → cond (waiting && not had) (Some Flush) None ≡ None
waits_not true had w = absurd (no w)
waits_not false had w = refl

had_one : (waiting had : Bool) → had ≡ true → cond (waiting && not had) (Some Flush) None ≡ None
had_one true true h = refl
had_one true false h = absurd (no (sym h))
had_one false had h = refl

-- no flush comes next: nothing waits, or a flush holds a slot
pub no_flush_waits : (waiting : Bool) (jobs : List Job) → waiting ≡ false → flush_job waiting jobs ≡ None
no_flush_waits waiting jobs w = waits_not waiting (list_any is_flush jobs) w

pub flush_held : (waiting had : Bool) (jobs : List Job) → had ≡ list_any is_flush jobs → had ≡ true → flush_job waiting jobs ≡ None
flush_held waiting had jobs h held = had_one waiting (list_any is_flush jobs) (sym h ∙ held)

-- the first of two is passed, or taken
pub passed_first : (a next : Option Job) → a ≡ None → next ≡ or_next a next
passed_first None next e = refl
passed_first (Some j) next e = absurd (none_job j (sym e))

pub took_first : (a : Option Job) (j : Job) (next : Option Job) → a ≡ Some j → Some j ≡ or_next a next
took_first a j next e = ap (λ (o : Option Job). or_next o next) (sym e)

-- where no flush comes next, it is the first merge that may stand
pub merge_next : (waiting several : Bool) (levels : Levels) (jobs : List Job) → flush_job waiting jobs ≡ None → several ≡ list_any is_several jobs → several ≡ false → next_merge levels jobs ≡ pick waiting levels jobs
merge_next waiting several levels jobs none is may =
    ap (λ (b : Bool). cond b None (next_merge levels jobs)) (sym may ∙ is) ∙ passed_first (flush_job waiting jobs) _ none

pub none_next : (waiting several : Bool) (levels : Levels) (jobs : List Job) → flush_job waiting jobs ≡ None → several ≡ list_any is_several jobs → several ≡ true → None ≡ pick waiting levels jobs
none_next waiting several levels jobs none is may =
    ap (λ (b : Bool). cond b None (next_merge levels jobs)) (sym may ∙ is) ∙ passed_first (flush_job waiting jobs) _ none

-- the level at a place
pub level_at : (levels : Levels) (deeper : List (List Table)) (m : ℕ) (l : List Table) → deeper ≡ levels.deeper → m < length deeper → l ≡ get_or deeper m l → l ≡ level levels (suc m)
level_at levels deeper m l same lt is = is ∙ get_or_any deeper m l [] lt ∙ ap (λ (xs : List (List Table)). get_or xs m []) same

-- a rule on a level and the next one
abbrev LevelRule : Type 0
LevelRule = List Table → List Table → ℕ → Option Job

module _ (rule : LevelRule) (levels : Levels) (deeper : List (List Table)) (deeper_are : deeper ≡ levels.deeper) (long : 4 ≤ length deeper)
    (l1 l2 l3 l4 : List Table) (first : l1 ≡ get_or deeper 0 l1) (second : l2 ≡ get_or deeper 1 l2) (third : l3 ≡ get_or deeper 2 l3) (fourth : l4 ≡ get_or deeper 3 l4) where
  -- the first of its jobs in three levels
  pub least_level : (a b c : Option Job) → a ≡ rule l1 l2 1 → b ≡ rule l2 l3 2 → c ≡ rule l3 l4 3
      → or_next a (or_next b c) ≡ of_least_level (λ i. rule (level levels i) (level levels (suc i)) i)
  least_level a b c ea eb ec =
      let e1 = level_at levels deeper 0 l1 deeper_are (omega (arith, long)) first in
      let e2 = level_at levels deeper 1 l2 deeper_are (omega (arith, long)) second in
      let e3 = level_at levels deeper 2 l3 deeper_are (omega (arith, long)) third in
      let e4 = level_at levels deeper 3 l4 deeper_are (omega (arith, long)) fourth in
      let fa : a ≡ rule (level levels 1) (level levels 2) 1 = ea ∙ ap (λ (l : List Table). rule l l2 1) e1 ∙ ap (λ (l : List Table). rule (level levels 1) l 1) e2 in
      let fb : b ≡ rule (level levels 2) (level levels 3) 2 = eb ∙ ap (λ (l : List Table). rule l l3 2) e2 ∙ ap (λ (l : List Table). rule (level levels 2) l 2) e3 in
      let fc : c ≡ rule (level levels 3) (level levels 4) 3 = ec ∙ ap (λ (l : List Table). rule l l4 3) e3 ∙ ap (λ (l : List Table). rule (level levels 3) l 3) e4 in
      ap (λ (o : Option Job). or_next o (or_next b c)) fa
      ∙ ap (λ (o : Option Job). or_next (rule (level levels 1) (level levels 2) 1) (or_next o c)) fb
      ∙ ap (λ (o : Option Job). or_next (rule (level levels 1) (level levels 2) 1) (or_next (rule (level levels 2) (level levels 3) 2) o)) fc

module _ (levels : Levels) (jobs : List Job) (runs deeper : List (List Table)) (runs_are : runs ≡ levels.runs) (deeper_are : deeper ≡ levels.deeper) (long : 1 ≤ length deeper)
    (l1 : List Table) (first : l1 ≡ get_or deeper 0 l1) where
  -- it is the first of the merges
  pub first_merge : (a b c : Option Job) → a ≡ level_0_job runs l1 jobs → b ≡ of_least_level (λ i. delete_job (level levels i) (level levels (suc i)) jobs i)
      → c ≡ of_least_level (λ i. level_job (level levels i) (level levels (suc i)) jobs i (limit_of i)) → or_next a (or_next b c) ≡ next_merge levels jobs
  first_merge a b c ea eb ec =
      let e1 = level_at levels deeper 0 l1 deeper_are (omega (arith, long)) first in
      let fa : a ≡ level_0_job levels.runs (level levels 1) jobs = ea ∙ ap (λ (r : List (List Table)). level_0_job r l1 jobs) runs_are ∙ ap (λ (l : List Table). level_0_job levels.runs l jobs) e1 in
      ap (λ (o : Option Job). or_next o (or_next b c)) fa
      ∙ ap (λ (o : Option Job). or_next (level_0_job levels.runs (level levels 1) jobs) (or_next o c)) eb
      ∙ ap (λ (o : Option Job). or_next (level_0_job levels.runs (level levels 1) jobs) (or_next (of_least_level (λ i. delete_job (level levels i) (level levels (suc i)) jobs i)) o)) ec

-- ---- free tables

free_apart : (jobs : List Job) (t : Table) → is_free jobs t ≡ true → (other : Job) → IsAmong other jobs → (u : Table) → IsAmong u (inputs other) → t.number ≢ u.number
free_apart jobs t free other a u b same =
    absurd (no (sym (any_of (λ job. list_any (λ x. x.number == t.number) (inputs job)) other jobs a (any_of (λ x. x.number == t.number) u (inputs other) b (eq-eqb u.number t.number (sym same))))
    ∙ not_true (is_input jobs t.number) free))

pub merge_apart : (jobs : List Job) (i : ℕ) (upper below : List Table) → can_merge jobs upper below ≡ true → list_any is_several jobs ≡ false → (are_several i upper ≡ true → list_any is_merge jobs ≡ false)
    → (other : Job) → IsAmong other jobs → AreApart (merge_of i upper below) other
merge_apart jobs i upper below can none lone other a =
    let parts = in_both (list_all (is_free jobs) upper) (list_all (is_free jobs) (lower_of upper below)) can in
    record {
      tables = λ t u b c. ⊎_elim
          (λ up. free_apart jobs t (all_pass (is_free jobs) upper parts.0 t up) other a u c)
          (λ low. free_apart jobs t (all_pass (is_free jobs) (lower_of upper below) parts.1 t low) other a u c)
          (among_either t upper (lower_of upper below) b);
      one_flush = λ e f. absurd (no (sym e));
      alone = λ e. by (is_flush other) refl (lone e);
      others_alone = λ e. absurd (no (sym (any_of is_several other jobs a e) ∙ none));
    }
  where
    by : (b : Bool) → is_flush other ≡ b → list_any is_merge jobs ≡ false → b ≡ true
    by true e f = refl
    by false e f = absurd (no (sym (any_of is_merge other jobs a (ap not e)) ∙ f))

-- ---- the tables below its output

deeper_none : (xs : List (List Table)) (m : ℕ) → length xs ≤ m → get_or xs m [] ≡ []
deeper_none [] m le = refl
deeper_none (x ∷ xs) zero le = absurd (omega (arith, le))
deeper_none (x ∷ xs) (suc m) le = deeper_none xs m (omega (arith, le))

module _ (levels : Levels) (runs : AreRuns levels) where
  too_deep : (m : ℕ) (t : Table) → 4 ≤ m → IsAmong t (level levels (suc m)) → ⊥
  too_deep m t le a = subst (IsAmong t) (deeper_none levels.deeper m (omega (arith, runs.four, le))) a

  below_is : (i k : ℕ) (t : Table) → i ≤ 3 → suc i < k → IsAmong t (level levels k) → IsAmong t (below_output levels i)
  below_is zero zero t small deep a = absurd (omega (arith, deep))
  below_is zero (suc zero) t small deep a = absurd (omega (arith, deep))
  below_is zero (suc (suc zero)) t small deep a = among_left t (level levels 2) _ a
  below_is zero (suc (suc (suc zero))) t small deep a = among_right t (level levels 2) _ (among_left t (level levels 3) (level levels 4) a)
  below_is zero (suc (suc (suc (suc zero)))) t small deep a = among_right t (level levels 2) _ (among_right t (level levels 3) (level levels 4) a)
  below_is zero (suc (suc (suc (suc (suc m))))) t small deep a = absurd (too_deep (suc (suc (suc (suc m)))) t (omega arith) a)
  below_is (suc zero) zero t small deep a = absurd (omega (arith, deep))
  below_is (suc zero) (suc zero) t small deep a = absurd (omega (arith, deep))
  below_is (suc zero) (suc (suc zero)) t small deep a = absurd (omega (arith, deep))
  below_is (suc zero) (suc (suc (suc zero))) t small deep a = among_left t (level levels 3) (level levels 4) a
  below_is (suc zero) (suc (suc (suc (suc zero)))) t small deep a = among_right t (level levels 3) (level levels 4) a
  below_is (suc zero) (suc (suc (suc (suc (suc m))))) t small deep a = absurd (too_deep (suc (suc (suc (suc m)))) t (omega arith) a)
  below_is (suc (suc zero)) zero t small deep a = absurd (omega (arith, deep))
  below_is (suc (suc zero)) (suc zero) t small deep a = absurd (omega (arith, deep))
  below_is (suc (suc zero)) (suc (suc zero)) t small deep a = absurd (omega (arith, deep))
  below_is (suc (suc zero)) (suc (suc (suc zero))) t small deep a = absurd (omega (arith, deep))
  below_is (suc (suc zero)) (suc (suc (suc (suc zero)))) t small deep a = a
  below_is (suc (suc zero)) (suc (suc (suc (suc (suc m))))) t small deep a = absurd (too_deep (suc (suc (suc (suc m)))) t (omega arith) a)
  below_is (suc (suc (suc i))) zero t small deep a = absurd (omega (arith, deep))
  below_is (suc (suc (suc i))) (suc m) t small deep a = absurd (too_deep m t (omega (arith, deep)) a)

  lowest_met : (o : Option KeyRange) (whole : KeyRange) (tables : List Table) (t : Table) → o ≡ Some whole → meets_none o tables ≡ true → IsAmong t tables → meets whole t ≡ false
  lowest_met None whole tables t e h a = cc
  lowest_met (Some w) whole tables t e h a = by (meets whole t) refl
    where
      by : (b : Bool) → meets whole t ≡ b → b ≡ false
      by false f = refl
      by true f = absurd (no (sym (any_of (meets w) t tables a (ap (λ (r : KeyRange). meets r t) (some_range w whole e) ∙ f)) ∙ not_true (list_any (meets w) tables) h))

  -- a merge of the tables of a level that meet what it reaches
  pub held_where : (i : ℕ) (upper lower : List Table) (range : KeyRange) → i ≤ 3 → reach upper lower ≡ Some range → IsUpper levels i upper → lower ≡ filter (meets range) (level levels (suc i))
      → HasItsTables levels (is_bottom levels (Merge i upper lower)) i upper lower
  held_where i upper lower range small is uppers lower_is = record {
    known = small;
    range = range;
    hull_is = is;
    uppers = uppers;
    lower_run = subst IsRun (sym lower_is) (run_filter (meets range) (level levels (suc i)) (run_at levels runs i));
    lowers = λ t a. (passed_among (meets range) t (level levels (suc i)) (subst (IsAmong t) lower_is a)).0;
    meet = λ t a. (passed_among (meets range) t (level levels (suc i)) (subst (IsAmong t) lower_is a)).1;
    all = λ t a met. subst (IsAmong t) (sym lower_is) (among_passed (meets range) t (level levels (suc i)) a met);
    lowest = λ bottom k t whole deep a whole_is. lowest_met (hull (upper ++ lower)) whole (below_output levels i) t whole_is bottom (below_is i k t small deep a);
  }

  -- one of upper tables whose hull there is
  pub held_merge : (i : ℕ) (upper : List Table) (range : KeyRange) → i ≤ 3 → hull upper ≡ Some range → IsUpper levels i upper
      → HasItsTables levels (is_bottom levels (merge_of i upper (level levels (suc i)))) i upper (lower_of upper (level levels (suc i)))
  held_merge i upper range small is uppers =
      held_where i upper (lower_of upper (level levels (suc i))) range small (reached upper is) uppers (ap (λ (o : Option KeyRange). meeting o (level levels (suc i))) is)
    where
      reached : (tables : List Table) → hull tables ≡ Some range → reach tables (lower_of upper (level levels (suc i))) ≡ Some range
      reached [] e = absurd cc
      reached (t ∷ rest) e = e

-- ---- the rules

flush_rule : (waiting : Bool) (levels : Levels) (jobs : List Job) (job : Job) → flush_job waiting jobs ≡ Some job → MayTake levels jobs job
flush_rule waiting levels jobs job e =
    let test = taken (waiting && not (list_any is_flush jobs)) job (Some Flush) e in
    let none = not_true (list_any is_flush jobs) (in_both waiting (not (list_any is_flush jobs)) test.0).1 in
    subst (MayTake levels jobs) (some_job Flush job test.1) (record {
      held = refl;
      apart = λ other a. record {
        tables = λ t u b c. absurd b;
        one_flush = λ mine theirs. no (sym (any_of is_flush other jobs a theirs) ∙ none);
        alone = λ e. absurd (no (sym e));
        others_alone = λ e. refl;
      };
    })

pub hull_there : (upper : List Table) → 0 < length upper → (range : KeyRange) × (hull upper ≡ Some range)
hull_there [] some = absurd (omega (arith, some))
hull_there (t ∷ rest) some = (spanned t (hull rest), refl)

-- the oldest runs are upper tables
pub oldest_upper : (levels : Levels) (upper : List Table) → AreOldest levels.runs upper → IsUpper levels 0 upper
oldest_upper levels [] o = tt
oldest_upper levels (t ∷ rest) o = o

-- with which other merges may run
pub not_several : (upper : List Table) → 0 < length upper → are_several 0 upper ≡ true → ⊥
not_several [] some e = omega (arith, some)
not_several (t ∷ rest) some e =
    let few : are_several 0 (t ∷ rest) ≡ false = ap (λ b. b || (ltb 0 0 && ltb 1 (length (t ∷ rest)))) (ne_eqb (length (t ∷ rest)) 0 (λ f. omega (arith, f))) in
    no (sym e ∙ few)

level_0_rule : (levels : Levels) (jobs : List Job) (job : Job) → AreRuns levels → list_any is_several jobs ≡ false → level_0_job levels.runs (level levels 1) jobs ≡ Some job → MayTake levels jobs job
level_0_rule levels jobs job runs none e =
    let oldest = all_tables (oldest_runs 1 levels.runs) in
    let can : Bool = can_merge jobs oldest (level levels 1) in
    let test = taken (leb 4 (length levels.runs) && (not (list_any is_of_level_0 jobs) && can)) job (Some (merge_of 0 oldest (level levels 1))) e in
    let first = in_both (leb 4 (length levels.runs)) (not (list_any is_of_level_0 jobs) && can) test.0 in
    let then = in_both (not (list_any is_of_level_0 jobs)) can first.1 in
    let many = leb-true 4 (length levels.runs) first.0 in
    let uppers = oldest_are 1 levels.runs (omega arith) (omega (arith, many)) in
    let some = oldest_some levels.runs oldest runs.some uppers in
    let there = hull_there oldest some in
    subst (MayTake levels jobs) (some_job (merge_of 0 oldest (level levels 1)) job test.1) (record {
      held = held_merge levels runs 0 oldest there.0 (omega arith) there.1 (oldest_upper levels oldest uppers);
      apart = merge_apart jobs 0 oldest (level levels 1) then.1 none (λ f. absurd (not_several oldest some f));
    })

least_among : (tables : List Table) (t : Table) → least_numbered tables ≡ Some t → IsAmong t tables
least_among [] t e = absurd (none_table t e)
least_among (u ∷ rest) t e = by (least_numbered rest) (least_among rest) (some_table (lesser u (least_numbered rest)) t e)
  where
    by : (o : Option Table) → ((x : Table) → o ≡ Some x → IsAmong x rest) → lesser u o ≡ t → IsAmong t (u ∷ rest)
    by None more e = inl (sym e)
    by (Some x) more e = choose (leb u.number x.number) e
      where
        choose : (b : Bool) → cond b u x ≡ t → IsAmong t (u ∷ rest)
        choose true e = inl (sym e)
        choose false e = inr (subst (λ (y : Table). IsAmong y rest) e (more x refl))

mapped : (f : Table → Job) (o : Option Table) (job : Job) → option_map f o ≡ Some job → (t : Table) × (o ≡ Some t) × (f t ≡ job)
mapped f (Some t) job e = (t, refl, some_job (f t) job e)
mapped f None job e = absurd (none_job job e)

-- the least-numbered of the tables of a level that pass a test
least_rule : (test : Table → Bool) (i : ℕ) (levels : Levels) (jobs : List Job) (job : Job) → suc i ≤ 3 → AreRuns levels → list_any is_several jobs ≡ false
    → least_job test (level levels (suc i)) (level levels (suc (suc i))) jobs (suc i) ≡ Some job → MayTake levels jobs job
least_rule test i levels jobs job small runs none e =
    let tables = level levels (suc i) in
    let below = level levels (suc (suc i)) in
    let found = mapped (λ t. merge_of (suc i) (t ∷ []) below) (least_numbered (filter (λ t. test t && can_merge jobs (t ∷ []) below) tables)) job e in
    let t = found.0 in
    let passed = passed_among (λ u. test u && can_merge jobs (u ∷ []) below) t tables (least_among (filter (λ u. test u && can_merge jobs (u ∷ []) below) tables) t found.1) in
    subst (MayTake levels jobs) found.2 (record {
      held = held_merge levels runs (suc i) (t ∷ []) (range_of t) small refl (one_met tables t (run_at levels runs i) passed.0);
      apart = merge_apart jobs (suc i) (t ∷ []) below (in_both (test t) (can_merge jobs (t ∷ []) below) passed.1).1 none (λ f. absurd (no (sym f ∙ one_few (ltb 0 (suc i)))));
    })

level_rule : (i limit : ℕ) (levels : Levels) (jobs : List Job) (job : Job) → suc i ≤ 3 → AreRuns levels → list_any is_several jobs ≡ false
    → level_job (level levels (suc i)) (level levels (suc (suc i))) jobs (suc i) limit ≡ Some job → MayTake levels jobs job
level_rule i limit levels jobs job small runs none e =
    let tables = level levels (suc i) in
    let below = level levels (suc (suc i)) in
    let test = taken (ltb limit (sum_by (λ t. t.blocks) tables)) job (least_job (λ t. true) tables below jobs (suc i)) e in
    least_rule (λ t. true) i levels jobs job small runs none test.1

-- the first of two that there is
pub of_next : (P : Job → Type 0) (a b : Option Job) (job : Job) → ((x : Job) → a ≡ Some x → P x) → ((x : Job) → b ≡ Some x → P x) → or_next a b ≡ Some job → P job
of_next P (Some x) b job f g e = f job e
of_next P None b job f g e = g job e

-- the first of three
pub of_levels : (P : Job → Type 0) (f : ℕ → Option Job) (job : Job) → ((x : Job) → f 1 ≡ Some x → P x) → ((x : Job) → f 2 ≡ Some x → P x) → ((x : Job) → f 3 ≡ Some x → P x) → of_least_level f ≡ Some job → P job
of_levels P f job one two three e = of_next P (f 1) (or_next (f 2) (f 3)) job one (λ x. of_next P (f 2) (f 3) x two three) e

abbrev NoFlush : Job → Type 0
NoFlush j = is_flush j ≡ false

-- a flush is picked only where sealed versions wait
pub flush_waits : (waiting : Bool) (levels : Levels) (jobs : List Job) (job : Job) → pick waiting levels jobs ≡ Some job → is_flush job ≡ true → waiting ≡ true
flush_waits waiting levels jobs job e =
    let P : Job → Type 0 = λ j. is_flush j ≡ true → waiting ≡ true in
    of_next P _ _ job (λ x f flush. (in_both waiting (not (list_any is_flush jobs)) (taken (waiting && not (list_any is_flush jobs)) x (Some Flush) f).0).0)
    (λ x g. of_next P _ _ x (λ y f flush. absurd (not_flush y (level_0_merge y f) flush))
    (λ x. of_next P _ _ x
    (λ y f flush. absurd (not_flush y (of_levels NoFlush (λ i. delete_job (level levels i) (level levels (suc i)) jobs i) y
    (least_merge 1 is_mostly_deletes (level levels 1) (level levels 2)) (least_merge 2 is_mostly_deletes (level levels 2) (level levels 3)) (least_merge 3 is_mostly_deletes (level levels 3) (level levels 4)) f) flush))
    (λ y f flush. absurd (not_flush y (of_levels NoFlush (λ i. level_job (level levels i) (level levels (suc i)) jobs i (limit_of i)) y
    (level_merge 1 256 (level levels 1) (level levels 2)) (level_merge 2 2048 (level levels 2) (level levels 3)) (level_merge 3 16384 (level levels 3) (level levels 4)) f) flush)))
    (barred (list_any is_several jobs) x (next_merge levels jobs) g).1) e
  where
    not_flush : (j : Job) → is_flush j ≡ false → is_flush j ≡ true → ⊥
    not_flush j a b = no (sym b ∙ a)

    level_0_merge : (j : Job) → level_0_job levels.runs (level levels 1) jobs ≡ Some j → is_flush j ≡ false
    level_0_merge j f =
        let oldest = all_tables (oldest_runs 1 levels.runs) in
        let test = taken (leb 4 (length levels.runs) && (not (list_any is_of_level_0 jobs) && can_merge jobs oldest (level levels 1))) j (Some (merge_of 0 oldest (level levels 1))) f in
        sym (ap is_flush (some_job (merge_of 0 oldest (level levels 1)) j test.1))

    least_merge : (i : ℕ) (test : Table → Bool) (tables below : List Table) (j : Job) → least_job test tables below jobs i ≡ Some j → is_flush j ≡ false
    least_merge i test tables below j f =
        let found = mapped (λ t. merge_of i (t ∷ []) below) (least_numbered (filter (λ t. test t && can_merge jobs (t ∷ []) below) tables)) j f in
        sym (ap is_flush found.2)

    level_merge : (i limit : ℕ) (tables below : List Table) (j : Job) → level_job tables below jobs i limit ≡ Some j → is_flush j ≡ false
    level_merge i limit tables below j f =
        least_merge i (λ t. true) tables below j (taken (ltb limit (sum_by (λ t. t.blocks) tables)) j (least_job (λ t. true) tables below jobs i) f).1

pub pick_law : PickLaw
pick_law waiting levels jobs job runs e =
    let P : Job → Type 0 = MayTake levels jobs in
    of_next P _ _ job (flush_rule waiting levels jobs)
    (λ x f. let free = barred (list_any is_several jobs) x (next_merge levels jobs) f in merge_rule x free.0 free.1) e
  where
    merge_rule : (x : Job) → list_any is_several jobs ≡ false → next_merge levels jobs ≡ Some x → MayTake levels jobs x
    merge_rule x none f =
        let P : Job → Type 0 = MayTake levels jobs in
        of_next P _ _ x (λ y. level_0_rule levels jobs y runs none)
        (λ y. of_next P _ _ y
        (λ z. of_levels P (λ i. delete_job (level levels i) (level levels (suc i)) jobs i) z
        (λ w. least_rule is_mostly_deletes 0 levels jobs w (omega arith) runs none) (λ w. least_rule is_mostly_deletes 1 levels jobs w (omega arith) runs none) (λ w. least_rule is_mostly_deletes 2 levels jobs w (omega arith) runs none))
        (λ z. of_levels P (λ i. level_job (level levels i) (level levels (suc i)) jobs i (limit_of i)) z
        (λ w. level_rule 0 256 levels jobs w (omega arith) runs none) (λ w. level_rule 1 2048 levels jobs w (omega arith) runs none) (λ w. level_rule 2 16384 levels jobs w (omega arith) runs none))) f
