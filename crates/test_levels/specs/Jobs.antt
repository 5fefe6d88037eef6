-- Jobs that hold slots.
use Rattle.std.specs.Prelude.{ℕ, List, [], ◌∷◌}
use Rattle.lsm_levels.specs.Tables.{Table, table_at}
use Rattle.lsm_levels.specs.Pick.{Job}
use Rattle.lsm_levels.specs.Pick as job
use Rattle.test_levels.specs.declared.slots.Slots.{Slots}
use Rattle.test_levels.specs.declared.slots.Slots.TheVariants.{Free, Flush, Merge, Several, Rewrite}

abbrev table : ℕ → Table
table number = table_at (record { number = number; entries = 0; first = []; edges = []; filter = [] }) 0 0 []

-- a merge of a level that takes in the table of this number
abbrev merge_of_table : ℕ → ℕ → Job
merge_of_table level number = job.Merge level (table number ∷ []) []

-- the jobs that hold slots
abbrev pub jobs_of : Slots → List Job
jobs_of Free = []
jobs_of Flush = job.Flush ∷ []
jobs_of (Merge level number) = merge_of_table level number ∷ []
jobs_of Several = job.Merge 1 (table 90 ∷ table 91 ∷ []) [] ∷ []
jobs_of Rewrite = job.Merge 1 [] (table 90 ∷ []) ∷ []
