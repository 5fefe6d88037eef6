-- A job that is chosen has its tables, and no other job has them as input.
use Rattle.std.proofs.Common.{◌≡◌, ℕ, zero, suc, ◌==◌, ◌<◌, ◌≤◌, Bool, true, false, not, ◌&&◌, ◌||◌, leb, List, [], length, get_or, filter, Option, Some, None, refl, sym, ap, ◌∙◌, subst, arith}
use Rattle.std.proofs.lemmas.Bool.{leb-true}
use Rattle.std.specs.List.{list_any, find}
use Rattle.lsm_codec.specs.Keys.{Bytes}
use Rattle.lsm_levels.specs.Tables.{Table, KeyRange, hull, meets, meeting, IsRun}
use Rattle.lsm_levels.specs.Levels.{Levels, all_tables, level, oldest_runs}
use Rattle.lsm_levels.specs.Pick.{Job, Flush, Merge, inputs, is_flush, is_merge, is_several, are_several, is_of_level_0, can_merge, merge_of, or_next}
use Rattle.lsm_levels.specs.Choices.{may_stand, merge_if, free_merge, run_job, tables_from, neighbours, tables_job, rewrite_job, of_least_from_0, chosen}
use Rattle.lsm_levels.specs.Held.{AreRuns, IsUpper, AreApart, MayTake, ChoiceLaw}
use Rattle.lsm_levels.specs.declared.choosing.Choice.{Choice}
use Rattle.lsm_levels.specs.declared.choosing.Choice.TheVariants as choice
use Rattle.lsm_levels.proofs.PickLaws.{in_both, not_true, not_several, some_job, taken, level_at, merge_apart, held_where, held_merge, hull_there, oldest_upper, of_next, of_levels}
use Rattle.lsm_levels.proofs.OldestRuns.{oldest_are, oldest_some}
use Rattle.lsm_levels.proofs.Members.{any_of}
use Rattle.lsm_levels.proofs.Ranges.{no}
use Rattle.lsm_levels.proofs.Runs.{run_at}
use Rattle.lsm_levels.proofs.TablesMet.{met_own}

-- what follows where a merge may run along with others
stands : (several are merges : Bool) → (not several && (not are || not merges)) ≡ true → (several ≡ false) × (are ≡ true → merges ≡ false)
stands false true false e = (refl, λ f. refl)
stands false false merges e = (refl, λ f. absurd (no (sym f)))
stands false true true e = absurd (no (sym e))
stands true are merges e = absurd (no (sym e))

-- ---- what the parts of a choice tell

-- the job of runs, where a slice shows the levels
pub chosen_runs : (count : ℕ) (levels : Levels) (jobs : List Job) (runs deeper : List (List Table)) → runs ≡ levels.runs → deeper ≡ levels.deeper
    → (l1 : List Table) → 1 ≤ length deeper → l1 ≡ get_or deeper 0 l1 → run_job count runs l1 jobs ≡ chosen levels jobs (choice.OldestRuns count)
chosen_runs count levels jobs runs deeper runs_are deeper_are l1 some first =
    ap (λ (r : List (List Table)). run_job count r l1 jobs) runs_are ∙ ap (λ (l : List Table). run_job count levels.runs l jobs) (level_at levels deeper 0 l1 deeper_are (omega (arith, some)) first)

-- the first rewrite in four levels, where a slice shows them
pub least_rewrite : (from to : ℕ) (levels : Levels) (jobs : List Job) (deeper : List (List Table)) → deeper ≡ levels.deeper → 4 ≤ length deeper
    → (l1 l2 l3 l4 : List Table) → l1 ≡ get_or deeper 0 l1 → l2 ≡ get_or deeper 1 l2 → l3 ≡ get_or deeper 2 l3 → l4 ≡ get_or deeper 3 l4
    → (a b c d : Option Job) → a ≡ rewrite_job from to 0 l1 jobs → b ≡ rewrite_job from to 1 l2 jobs → c ≡ rewrite_job from to 2 l3 jobs → d ≡ rewrite_job from to 3 l4 jobs
    → or_next a (or_next b (or_next c d)) ≡ chosen levels jobs (choice.Rewrite from to)
least_rewrite from to levels jobs deeper deeper_are long l1 l2 l3 l4 first second third fourth a b c d ea eb ec ed =
    let rule : ℕ → List Table → Option Job = λ i tables. rewrite_job from to i tables jobs in
    let fa : a ≡ rule 0 (level levels 1) = ea ∙ ap (rule 0) (level_at levels deeper 0 l1 deeper_are (omega (arith, long)) first) in
    let fb : b ≡ rule 1 (level levels 2) = eb ∙ ap (rule 1) (level_at levels deeper 1 l2 deeper_are (omega (arith, long)) second) in
    let fc : c ≡ rule 2 (level levels 3) = ec ∙ ap (rule 2) (level_at levels deeper 2 l3 deeper_are (omega (arith, long)) third) in
    let fd : d ≡ rule 3 (level levels 4) = ed ∙ ap (rule 3) (level_at levels deeper 3 l4 deeper_are (omega (arith, long)) fourth) in
    ap (λ (o : Option Job). or_next o (or_next b (or_next c d))) fa
    ∙ ap (λ (o : Option Job). or_next (rule 0 (level levels 1)) (or_next o (or_next c d))) fb
    ∙ ap (λ (o : Option Job). or_next (rule 0 (level levels 1)) (or_next (rule 1 (level levels 2)) (or_next o d))) fc
    ∙ ap (λ (o : Option Job). or_next (rule 0 (level levels 1)) (or_next (rule 1 (level levels 2)) (or_next (rule 2 (level levels 3)) o))) fd

-- the tables from one that is found to another
pub from_both : (tables : List Table) (from to : Option Table) (a b : Table) (k l : Bytes) → Some a ≡ from → Some b ≡ to → k ≡ a.first → l ≡ b.last
    → filter (meets (record { first = k; last = l })) tables ≡ tables_from tables from to
from_both tables from to a b k l e f g h =
    ap (λ (x : Bytes). filter (meets (record { first = x; last = l })) tables) g ∙ ap (λ (x : Bytes). filter (meets (record { first = a.first; last = x })) tables) h
    ∙ ap (λ (o : Option Table). tables_from tables o (Some b)) e ∙ ap (λ (o : Option Table). tables_from tables from o) f

-- ---- a job that is chosen

-- a merge whose upper tables stand in a level, where all that it takes in are free
free_rule : (b : Bool) (i : ℕ) (upper : List Table) (levels : Levels) (jobs : List Job) (job : Job) → AreRuns levels → i ≤ 3 → 0 < length upper → IsUpper levels i upper
    → (b ≡ true → (list_any is_several jobs ≡ false) × (are_several i upper ≡ true → list_any is_merge jobs ≡ false))
    → merge_if b i upper (level levels (suc i)) jobs ≡ Some job → MayTake levels jobs job
free_rule b i upper levels jobs job runs small some uppers stand e =
    let below = level levels (suc i) in
    let test = taken (b && can_merge jobs upper below) job (Some (merge_of i upper below)) e in
    let parts = in_both b (can_merge jobs upper below) test.0 in
    let alone = stand parts.0 in
    let there = hull_there upper some in
    subst (MayTake levels jobs) (some_job (merge_of i upper below) job test.1) (record {
      held = held_merge levels runs i upper there.0 small there.1 uppers;
      apart = merge_apart jobs i upper below parts.1 alone.0 alone.1;
    })

run_taken : (count : ℕ) (levels : Levels) (jobs : List Job) (job : Job) → run_job count levels.runs (level levels 1) jobs ≡ Some job
    → (((leb 1 count && leb count (length levels.runs)) && not (list_any is_of_level_0 jobs)) ≡ true) × (merge_if (not (list_any is_several jobs)) 0 (all_tables (oldest_runs count levels.runs)) (level levels 1) jobs ≡ Some job)
run_taken count levels jobs job e =
    taken ((leb 1 count && leb count (length levels.runs)) && not (list_any is_of_level_0 jobs)) job (merge_if (not (list_any is_several jobs)) 0 (all_tables (oldest_runs count levels.runs)) (level levels 1) jobs) e

run_rule : (count : ℕ) (levels : Levels) (jobs : List Job) (job : Job) → AreRuns levels → run_job count levels.runs (level levels 1) jobs ≡ Some job → MayTake levels jobs job
run_rule count levels jobs job runs e =
    let test = run_taken count levels jobs job e in
    let many = in_both (leb 1 count) (leb count (length levels.runs)) (in_both (leb 1 count && leb count (length levels.runs)) (not (list_any is_of_level_0 jobs)) test.0).0 in
    let uppers = oldest_are count levels.runs (leb-true 1 count many.0) (leb-true count (length levels.runs) many.1) in
    let upper = all_tables (oldest_runs count levels.runs) in
    let some = oldest_some levels.runs upper runs.some uppers in
    free_rule (not (list_any is_several jobs)) 0 upper levels jobs job runs (omega arith) some (oldest_upper levels upper uppers) (λ b. (not_true (list_any is_several jobs) b, λ f. absurd (not_several upper some f))) test.1

-- the tables from one to another are all that meet their hull
own_hull : (tables : List Table) (a b : Option Table) → IsRun tables → tables_from tables a b ≡ meeting (hull (tables_from tables a b)) tables
own_hull tables None b r = refl
own_hull tables (Some a) None r = refl
own_hull tables (Some a) (Some b) r = met_own (record { first = a.first; last = b.last }) tables r

tables_rule : (from to i : ℕ) (levels : Levels) (jobs : List Job) (job : Job) → AreRuns levels → suc i ≤ 3 → tables_job from to (suc i) (level levels (suc i)) (level levels (suc (suc i))) jobs ≡ Some job
    → MayTake levels jobs job
tables_rule from to i levels jobs job runs small e =
    let tables = level levels (suc i) in
    let upper = neighbours from to tables in
    let test = taken (leb 1 (length upper)) job (free_merge (suc i) upper (level levels (suc (suc i))) jobs) e in
    let some = leb-true 1 (length upper) test.0 in
    free_rule (may_stand jobs (suc i) upper) (suc i) upper levels jobs job runs small (omega (arith, some))
    (own_hull tables (find (λ t. t.number == from) tables) (find (λ t. t.number == to) tables) (run_at levels runs i))
    (λ b. stands (list_any is_several jobs) (are_several (suc i) upper) (list_any is_merge jobs) b) test.1

-- no upper table stands anywhere
no_upper : (levels : Levels) (i : ℕ) → IsUpper levels i []
no_upper levels zero = tt
no_upper levels (suc i) = refl

-- a job that is no merge is a flush, and a rewrite is apart from that
rewrite_apart : (i : ℕ) (tables : List Table) (other : Job) → is_merge other ≡ false → AreApart (Merge i [] tables) other
rewrite_apart i tables Flush e = record { tables = λ t u b c. absurd c; one_flush = λ mine theirs. absurd (no (sym mine)); alone = λ f. refl; others_alone = λ f. absurd (no (sym f)) }
rewrite_apart i tables (Merge j upper lower) e = absurd (no e)

rewrite_rule : (from to i : ℕ) (levels : Levels) (jobs : List Job) (job : Job) → AreRuns levels → i ≤ 3 → rewrite_job from to i (level levels (suc i)) jobs ≡ Some job → MayTake levels jobs job
rewrite_rule from to i levels jobs job runs small e =
    let all = level levels (suc i) in
    let tables = neighbours from to all in
    let test = taken (leb 1 (length tables) && not (list_any is_merge jobs)) job (Some (Merge i [] tables)) e in
    let parts = in_both (leb 1 (length tables)) (not (list_any is_merge jobs)) test.0 in
    let none = not_true (list_any is_merge jobs) parts.1 in
    let some = leb-true 1 (length tables) parts.0 in
    let there = hull_there tables (omega (arith, some)) in
    let own = own_hull all (find (λ t. t.number == from) all) (find (λ t. t.number == to) all) (run_at levels runs i) in
    subst (MayTake levels jobs) (some_job (Merge i [] tables) job test.1) (record {
      held = held_where levels runs i [] tables there.0 small there.1 (no_upper levels i) (own ∙ ap (λ (o : Option KeyRange). meeting o all) there.1);
      apart = λ other a. rewrite_apart i tables other (not_met (is_merge other) (λ f. no (sym (any_of is_merge other jobs a f) ∙ none)));
    })
  where
    not_met : (b : Bool) → (b ≡ true → ⊥) → b ≡ false
    not_met true h = absurd (h refl)
    not_met false h = refl

pub choice_law : ChoiceLaw
choice_law levels jobs (choice.OldestRuns count) job runs e = run_rule count levels jobs job runs e
choice_law levels jobs (choice.Tables from to) job runs e =
    of_levels (MayTake levels jobs) (λ i. tables_job from to i (level levels i) (level levels (suc i)) jobs) job
    (λ x f. tables_rule from to 0 levels jobs x runs (omega arith) f) (λ x f. tables_rule from to 1 levels jobs x runs (omega arith) f) (λ x f. tables_rule from to 2 levels jobs x runs (omega arith) f) e
choice_law levels jobs (choice.Rewrite from to) job runs e =
    let rule : ℕ → Option Job = λ i. rewrite_job from to i (level levels (suc i)) jobs in
    of_next (MayTake levels jobs) (rule 0) (or_next (rule 1) (or_next (rule 2) (rule 3))) job (λ x f. rewrite_rule from to 0 levels jobs x runs (omega arith) f)
    (λ y. of_levels (MayTake levels jobs) rule y
    (λ x f. rewrite_rule from to 1 levels jobs x runs (omega arith) f) (λ x f. rewrite_rule from to 2 levels jobs x runs (omega arith) f) (λ x f. rewrite_rule from to 3 levels jobs x runs (omega arith) f)) e

-- no flush is chosen
free_merges : (b : Bool) (i : ℕ) (upper below : List Table) (jobs : List Job) (job : Job) → merge_if b i upper below jobs ≡ Some job → is_flush job ≡ false
free_merges b i upper below jobs job e = sym (ap is_flush (some_job (merge_of i upper below) job (taken (b && can_merge jobs upper below) job (Some (merge_of i upper below)) e).1))

tables_merge : (from to i : ℕ) (tables below : List Table) (jobs : List Job) (job : Job) → tables_job from to i tables below jobs ≡ Some job → is_flush job ≡ false
tables_merge from to i tables below jobs job e =
    let upper = neighbours from to tables in
    free_merges (may_stand jobs i upper) i upper below jobs job (taken (leb 1 (length upper)) job (free_merge i upper below jobs) e).1

rewrite_merge : (from to i : ℕ) (tables : List Table) (jobs : List Job) (job : Job) → rewrite_job from to i tables jobs ≡ Some job → is_flush job ≡ false
rewrite_merge from to i tables jobs job e =
    let those = neighbours from to tables in
    sym (ap is_flush (some_job (Merge i [] those) job (taken (leb 1 (length those) && not (list_any is_merge jobs)) job (Some (Merge i [] those)) e).1))

pub chosen_merges : (levels : Levels) (jobs : List Job) (choice : Choice) (job : Job) → chosen levels jobs choice ≡ Some job → is_flush job ≡ false
chosen_merges levels jobs (choice.OldestRuns count) job e =
    free_merges (not (list_any is_several jobs)) 0 (all_tables (oldest_runs count levels.runs)) (level levels 1) jobs job (run_taken count levels jobs job e).1
chosen_merges levels jobs (choice.Tables from to) job e =
    of_levels (λ j. is_flush j ≡ false) (λ i. tables_job from to i (level levels i) (level levels (suc i)) jobs) job
    (tables_merge from to 1 (level levels 1) (level levels 2) jobs) (tables_merge from to 2 (level levels 2) (level levels 3) jobs) (tables_merge from to 3 (level levels 3) (level levels 4) jobs) e
chosen_merges levels jobs (choice.Rewrite from to) job e =
    let rule : ℕ → Option Job = λ i. rewrite_job from to i (level levels (suc i)) jobs in
    of_next (λ j. is_flush j ≡ false) (rule 0) (or_next (rule 1) (or_next (rule 2) (rule 3))) job (rewrite_merge from to 0 (level levels 1) jobs)
    (λ y. of_levels (λ j. is_flush j ≡ false) rule y (rewrite_merge from to 1 (level levels 2) jobs) (rewrite_merge from to 2 (level levels 3) jobs) (rewrite_merge from to 3 (level levels 4) jobs)) e
