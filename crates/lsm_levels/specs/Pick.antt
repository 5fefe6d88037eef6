-- Which job comes next.
use Rattle.std.specs.Prelude.{ℕ, zero, suc, ◌*◌, Bool, true, false, not, ◌&&◌, ◌||◌, nat_le, nat_lt, ◌==◌, List, [], ◌∷◌, ◌++◌, filter, sum_by, length, Option, Some, None, option_map, if◌then◌else◌}
use Rattle.std.specs.List.{list_any, list_all}
use Rattle.lsm_levels.specs.Tables.{Table, KeyRange, hull, meets, meeting}
use Rattle.lsm_levels.specs.Levels.{Levels, all_tables, level, oldest_runs, flushed, merged}

-- A job: a flush of the sealed versions into level 0, or a merge of tables of a level with those of the next level that
-- they meet. A merge of no upper tables is a rewrite: neighbours of the next level become new tables in their own place.
pub data Job : Type 0 where
  Flush : Job
  Merge : ℕ → List Table → List Table → Job

-- the tables that a job takes in
abbrev pub inputs : Job → List Table
inputs Flush = []
inputs (Merge i upper lower) = upper ++ lower

abbrev pub is_flush : Job → Bool
is_flush Flush = true
is_flush (Merge i upper lower) = false

abbrev pub is_of_level_0 : Job → Bool
is_of_level_0 Flush = false
is_of_level_0 (Merge i upper lower) = i == 0

-- Whether a merge is a rewrite, or takes several tables of a level from 1 to 3, which may leave room for others between them. So
-- no other merge runs along with it.
abbrev pub are_several : ℕ → List Table → Bool
are_several i upper = (length upper == 0) || (nat_lt 0 i && nat_lt 1 (length upper))

abbrev pub is_several : Job → Bool
is_several Flush = false
is_several (Merge i upper lower) = are_several i upper

abbrev pub is_merge : Job → Bool
is_merge job = not (is_flush job)

-- whether some job takes in the table of this number
abbrev pub is_input : List Job → ℕ → Bool
is_input jobs number = list_any (λ job. list_any (λ other. other.number == number) (inputs job)) jobs

-- a table is free where no job has it as input
abbrev pub is_free : List Job → Table → Bool
is_free jobs t = not (is_input jobs t.number)

-- the tables of the next level that tables meet: those that meet their hull
abbrev pub lower_of : List Table → List Table → List Table
lower_of upper below = meeting (hull upper) below

-- whether tables, and those of the next level that they meet, are all free
abbrev pub can_merge : List Job → List Table → List Table → Bool
can_merge jobs upper below = list_all (is_free jobs) upper && list_all (is_free jobs) (lower_of upper below)

abbrev pub merge_of : ℕ → List Table → List Table → Job
merge_of i upper below = Merge i upper (lower_of upper below)

-- the least-numbered table; of equal numbers the first
abbrev pub lesser : Table → Option Table → Table
lesser t None = t
lesser t (Some other) = if nat_le t.number other.number then t else other

abbrev pub least_numbered : List Table → Option Table
least_numbered [] = None
least_numbered (t ∷ rest) = Some (lesser t (least_numbered rest))

-- of a level: the least-numbered table that passes a test and is free, as are all tables of the next level that meet it, with
-- these
abbrev pub least_job : (Table → Bool) → List Table → List Table → List Job → ℕ → Option Job
least_job test tables below jobs i = option_map (λ t. merge_of i (t ∷ []) below) (least_numbered (filter (λ t. test t && can_merge jobs (t ∷ []) below) tables))

-- half of a table's entries or more are deletes
abbrev pub is_mostly_deletes : Table → Bool
is_mostly_deletes t = nat_le t.outline.entries (2 * t.deletes)

-- a flush, where sealed versions wait and no flush holds a slot
abbrev pub flush_job : Bool → List Job → Option Job
flush_job waiting jobs = if waiting && not (list_any is_flush jobs) then Some Flush else None

-- with 4 or more runs of level 0 and no job of it: the oldest run with the tables of level 1 that meet its hull, if all
-- are free
abbrev pub level_0_job : List (List Table) → List Table → List Job → Option Job
level_0_job runs below jobs =
    if nat_le 4 (length runs) && (not (list_any is_of_level_0 jobs) && can_merge jobs (all_tables (oldest_runs 1 runs)) below)
    then Some (merge_of 0 (all_tables (oldest_runs 1 runs)) below) else None

-- of a level, of the tables of which half the entries or more are deletes: the least-numbered one that is free, as are all
-- tables of the next level that meet it, with these
abbrev pub delete_job : List Table → List Table → List Job → ℕ → Option Job
delete_job tables below jobs i = least_job is_mostly_deletes tables below jobs i

-- of a level that is over its limit in blocks: the least-numbered table that is free, as are all tables of the next level
-- that meet it, with these
abbrev pub level_job : List Table → List Table → List Job → ℕ → ℕ → Option Job
level_job tables below jobs i limit =
    if nat_lt limit (sum_by (λ t. t.blocks) tables) then least_job (λ t. true) tables below jobs i else None

abbrev pub or_next : Option Job → Option Job → Option Job
or_next (Some job) next = Some job
or_next None next = next

-- the limit of a level from 1 to 3, in blocks
abbrev pub limit_of : ℕ → ℕ
limit_of i = if i == 1 then 256 else if i == 2 then 2048 else 16384

-- the job of the least level from 1 to 3 that has one
abbrev pub of_least_level : (ℕ → Option Job) → Option Job
of_least_level job = or_next (job 1) (or_next (job 2) (job 3))

-- the first of the merges that there is
abbrev pub next_merge : Levels → List Job → Option Job
next_merge levels jobs =
    or_next (level_0_job levels.runs (level levels 1) jobs)
    (or_next (of_least_level (λ i. delete_job (level levels i) (level levels (suc i)) jobs i))
    (of_least_level (λ i. level_job (level levels i) (level levels (suc i)) jobs i (limit_of i))))

-- The job that comes next: the first of these that there is. While a rewrite or a merge of several tables is held, no other
-- merge does.
abbrev pub pick : Bool → Levels → List Job → Option Job
pick waiting levels jobs = or_next (flush_job waiting jobs) (if list_any is_several jobs then None else next_merge levels jobs)

-- the tables below the output level of a merge
abbrev pub below_output : Levels → ℕ → List Table
below_output levels zero = level levels 2 ++ (level levels 3 ++ level levels 4)
below_output levels (suc zero) = level levels 3 ++ level levels 4
below_output levels (suc (suc zero)) = level levels 4
below_output levels (suc (suc (suc i))) = []

abbrev pub meets_none : Option KeyRange → List Table → Bool
meets_none (Some range) tables = not (list_any (meets range) tables)
meets_none None tables = true

-- the bottom flag: the job is a merge, and no table below its output meets the hull of its inputs
abbrev pub is_bottom : Levels → Job → Bool
is_bottom levels Flush = false
is_bottom levels (Merge i upper lower) = meets_none (hull (upper ++ lower)) (below_output levels i)

-- the levels after an install of a job with these outputs
abbrev pub installed_levels : Levels → Job → List Table → Levels
installed_levels levels Flush new = flushed new levels
installed_levels levels (Merge i upper lower) new = merged i upper lower new levels
