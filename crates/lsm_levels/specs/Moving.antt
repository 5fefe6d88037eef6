-- That an install moves tables: those of the job go, its outputs come, and each other one stays.
use Rattle.std.specs.Prelude.{◌≡◌, ◌≤◌, ℕ, ◌+◌, Bool, List, length, filter, if◌then◌else◌}
use Rattle.lsm_levels.specs.Tables.{Table, meeting}
use Rattle.lsm_levels.specs.Levels.{Levels, all_tables, level, places, reach}
use Rattle.lsm_levels.specs.Pick.{Job, Merge, inputs, is_flush, installed_levels}
use Rattle.lsm_levels.specs.Held.{AreRuns, IsHeld}

-- how many tables of these levels pass a test
abbrev pub count_in : (Table → Bool) → Levels → ℕ
count_in test levels = length (filter test (all_tables (places levels)))

-- how many tables there are
abbrev pub table_count : Levels → ℕ
table_count levels = length (all_tables (places levels))

-- An install of a job leaves just the tables that were there, without its inputs and with its outputs: counted by any test, and
-- in all. A flush adds a run to level 0, and a merge none.
pub record MovesTables (levels : Levels) (job : Job) (new : List Table) : Type 0 where
  pub passed : (test : Table → Bool) → count_in test (installed_levels levels job new) + length (filter test (inputs job)) ≡ count_in test levels + length (filter test new)
  pub number : table_count (installed_levels levels job new) + length (inputs job) ≡ table_count levels + length new
  pub runs : length (installed_levels levels job new).runs ≤ length levels.runs + (if is_flush job then 1 else 0)

abbrev pub MovingLaw : Type 0
MovingLaw = (levels : Levels) (flag : Bool) (job : Job) (new : List Table) → AreRuns levels → IsHeld levels flag job → MovesTables levels job new

-- The lower tables of a merge are those of their level that meet the hull of the upper ones, or their own where there are none, in
-- the level's order.
abbrev pub LowerLaw : Type 0
LowerLaw = (levels : Levels) (flag : Bool) (i : ℕ) (upper lower : List Table) → AreRuns levels → IsHeld levels flag (Merge i upper lower) → lower ≡ meeting (reach upper lower) (level levels (i + 1))
