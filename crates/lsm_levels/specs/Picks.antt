-- What a choice of the next job says.
use Rattle.std.specs.Prelude.{ℕ, Bool, true, ltb, List, [], ◌∷◌, Option, Some, None}
use Rattle.lsm_levels.specs.Tables.{Table}
use Rattle.lsm_levels.specs.Levels.{all_tables}
use Rattle.lsm_levels.specs.Pick.{Job, is_mostly_deletes, limit_of, delete_job, level_job}
use Rattle.lsm_levels.specs.Pick as job
use Rattle.lsm_levels.specs.declared.picking.Pick.{Pick}
use Rattle.lsm_levels.specs.declared.picking.Rule.{Rule}
use Rattle.lsm_levels.specs.declared.picking.Rule.TheVariants.{ManyDeletes, OverLimit}
use Rattle.lsm_levels.specs.declared.picking.Wanted.{Wanted}
use Rattle.lsm_levels.specs.declared.picking.Wanted.TheVariants.{EachTable, MostlyDeletes}
use Rattle.lsm_levels.specs.declared.picking.Pick.TheVariants.{Flush, OldestRuns, OneTable, Neighbours, Rewrite}

-- the job that it says
abbrev pub job_of : {A : Type 0} → Pick A → Job
job_of Flush = job.Flush
job_of (OldestRuns runs lower) = job.Merge 0 (all_tables runs.now) lower.now
job_of (OneTable level upper lower) = job.Merge level (upper.now ∷ []) lower.now
job_of (Neighbours level upper lower) = job.Merge level upper.now lower.now
job_of (Rewrite above tables) = job.Merge above [] tables.now

-- whether a choice wants a table
abbrev pub is_wanted : Wanted → Table → Bool
is_wanted EachTable t = true
is_wanted MostlyDeletes t = is_mostly_deletes t

-- the job of a rule, of the tables of a level and of the next one
abbrev pub rule_job : Rule → List Table → List Table → List Job → ℕ → Option Job
rule_job ManyDeletes tables below jobs i = delete_job tables below jobs i
rule_job OverLimit tables below jobs i = level_job tables below jobs i (limit_of i)

-- whether a table is numbered below another, if there is one
abbrev pub is_less : Table → Option Table → Bool
is_less t None = true
is_less t (Some other) = ltb t.number other.number
