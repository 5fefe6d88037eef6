-- Which jobs a caller may choose other than the next one.
use Rattle.std.specs.Prelude.{ℕ, suc, ◌==◌, ◌&&◌, ◌||◌, not, nat_le, Bool, List, [], length, filter, Option, Some, None, if◌then◌else◌}
use Rattle.std.specs.List.{find, list_any}
use Rattle.lsm_levels.specs.Tables.{Table, meets}
use Rattle.lsm_levels.specs.Levels.{Levels, all_tables, level, oldest_runs}
use Rattle.lsm_levels.specs.Pick.{Job, Merge, is_merge, is_of_level_0, is_several, are_several, can_merge, merge_of, or_next, of_least_level}
use Rattle.lsm_levels.specs.declared.choosing.Choice.{Choice}
use Rattle.lsm_levels.specs.declared.choosing.Choice.TheVariants as choice

-- whether a merge of these tables of a level may run along with other merges: not if either is a rewrite or takes several tables
abbrev pub may_stand : List Job → ℕ → List Table → Bool
may_stand jobs i upper = not (list_any is_several jobs) && (not (are_several i upper) || not (list_any is_merge jobs))

-- the merge of upper tables with those of the next level that they meet, if it may run and all of them are free
abbrev pub merge_if : Bool → ℕ → List Table → List Table → List Job → Option Job
merge_if stands i upper below jobs = if stands && can_merge jobs upper below then Some (merge_of i upper below) else None

-- the same, if it may run along with the others
abbrev pub free_merge : ℕ → List Table → List Table → List Job → Option Job
free_merge i upper below jobs = merge_if (may_stand jobs i upper) i upper below jobs

-- that of the `count` oldest runs of level 0, if there are that many, one at least, and no job of level 0, no rewrite and no merge of
-- several tables of another level
abbrev pub run_job : ℕ → List (List Table) → List Table → List Job → Option Job
run_job count runs below jobs =
    if (nat_le 1 count && nat_le count (length runs)) && not (list_any is_of_level_0 jobs) then merge_if (not (list_any is_several jobs)) 0 (all_tables (oldest_runs count runs)) below jobs else None

-- the tables from one to another, if there are both
abbrev pub tables_from : List Table → Option Table → Option Table → List Table
tables_from tables None b = []
tables_from tables (Some a) None = []
tables_from tables (Some a) (Some b) = filter (meets (record { first = a.first; last = b.last })) tables

-- those from the table of a number to that of another: all of the level whose keys are not before the one's or after the other's
abbrev pub neighbours : ℕ → ℕ → List Table → List Table
neighbours first last tables = tables_from tables (find (λ t. t.number == first) tables) (find (λ t. t.number == last) tables)

-- that of tables in a level, if there are any
abbrev pub some_job : ℕ → List Table → List Table → List Job → Option Job
some_job i upper below jobs = if nat_le 1 (length upper) then free_merge i upper below jobs else None

-- that of neighbours in a level
abbrev pub tables_job : ℕ → ℕ → ℕ → List Table → List Table → List Job → Option Job
tables_job first last i tables below jobs = some_job i (neighbours first last tables) below jobs

-- The rewrite of neighbours of the level below one, if there are any and no merge holds a slot. So all of them are free.
abbrev pub rewrite_job : ℕ → ℕ → ℕ → List Table → List Job → Option Job
rewrite_job first last i tables jobs =
    if nat_le 1 (length (neighbours first last tables)) && not (list_any is_merge jobs) then Some (Merge i [] (neighbours first last tables)) else None

-- the job of the least level from 0 to 3 that has one
abbrev pub of_least_from_0 : (ℕ → Option Job) → Option Job
of_least_from_0 job = or_next (job 0) (of_least_level job)

-- The job of a choice: none where there are no such tables, where one that it would take in is not free, where a job of level 0
-- goes on and the oldest runs are chosen, or where it may not run along with the others.
abbrev pub chosen : Levels → List Job → Choice → Option Job
chosen levels jobs (choice.OldestRuns count) = run_job count levels.runs (level levels 1) jobs
chosen levels jobs (choice.Tables first last) = of_least_level (λ i. tables_job first last i (level levels i) (level levels (suc i)) jobs)
chosen levels jobs (choice.Rewrite first last) = of_least_from_0 (λ i. rewrite_job first last i (level levels (suc i)) jobs)
