-- How much of the data area tables take.
use Rattle.std.specs.Prelude.{ℕ, ◌-◌, Bool, false, nat_le, List, sum_by, Option, Some, None, if◌then◌else◌}
use Rattle.lsm_levels.specs.Tables.{Table}
use Rattle.lsm_levels.specs.Levels.{Levels, all_tables, places}
use Rattle.lsm_levels.specs.Pick.{Job, inputs}
use Rattle.lsm_levels.specs.Choices.{chosen}
use Rattle.lsm_levels.specs.declared.choosing.Choice.{Choice}

-- the blocks of tables
abbrev pub blocks_of : List Table → ℕ
blocks_of tables = sum_by (λ t. t.blocks) tables

-- the blocks of all tables of the levels
abbrev pub taken_blocks : Levels → ℕ
taken_blocks levels = blocks_of (all_tables (places levels))

-- what is left of a number without another, none where that is greater
abbrev pub left_of : ℕ → ℕ → Option ℕ
left_of limit n = if nat_le n limit then Some (limit - n) else None

-- whether there is such a job, and it takes in at most `most` blocks
abbrev pub takes_in_at_most : ℕ → Option Job → Bool
takes_in_at_most most None = false
takes_in_at_most most (Some job) = nat_le (blocks_of (inputs job)) most

-- whether a choice may be taken, and takes in at most `most` blocks
abbrev pub fits : Levels → List Job → ℕ → Choice → Bool
fits levels jobs most choice = takes_in_at_most most (chosen levels jobs choice)
