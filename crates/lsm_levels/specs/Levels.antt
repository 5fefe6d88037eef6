-- The levels, and what installs make of them.
use Rattle.std.specs.Prelude.{ℕ, zero, suc, ◌-◌, nat_le, List, [], ◌∷◌, ◌++◌, length, drop, slice_set, Option, Some, None, if◌then◌else◌}
use Rattle.std.specs.List.{slice_index_or}
use Rattle.lsm_levels.specs.Tables.{Table, KeyRange, hull, put_at}

-- The runs of level 0, the newest first, and levels 1 to 4, each one run.
pub record Levels : Type 0 where
  pub runs : List (List Table)
  pub deeper : List (List Table)

-- levels without a table
abbrev pub no_tables : Levels
no_tables = record { runs = []; deeper = [] ∷ [] ∷ [] ∷ [] ∷ [] }

-- the tables of runs
abbrev pub all_tables : List (List Table) → List Table
all_tables [] = []
all_tables (run ∷ rest) = run ++ all_tables rest

-- the tables of a level
abbrev pub level : Levels → ℕ → List Table
level levels zero = all_tables levels.runs
level levels (suc i) = slice_index_or levels.deeper i []

-- all runs, the newer before the older
abbrev pub places : Levels → List (List Table)
places levels = levels.runs ++ levels.deeper

-- the `count` oldest runs
abbrev pub oldest_runs : ℕ → List (List Table) → List (List Table)
oldest_runs count runs = drop (length runs - count) runs

-- The runs without the oldest ones, which together hold `tables` tables. As each run has a table, the number of tables says which
-- runs these are.
abbrev pub newer_runs : ℕ → List (List Table) → List (List Table)
newer_runs tables [] = []
newer_runs tables (run ∷ rest) = if nat_le (length (all_tables (run ∷ rest))) tables then [] else run ∷ newer_runs tables rest

-- with a flush's tables as the newest run
abbrev pub flushed : List Table → Levels → Levels
flushed new levels = record levels { runs = new ∷ levels.runs }

-- with these tables in a level from 1 to 4, in the place of those that meet the range
abbrev pub with_level : ℕ → KeyRange → List Table → Levels → Levels
with_level zero range new levels = levels
with_level (suc i) range new levels = record levels { deeper = slice_set levels.deeper i (put_at range new (slice_index_or levels.deeper i [])) }

-- With outputs one level down, in the place of the tables that meet the range: the oldest runs of level 0, of `tables` tables,
-- are gone, or those of the level that meet it.
abbrev pub lowered : ℕ → KeyRange → ℕ → List Table → Levels → Levels
lowered zero range tables new levels = with_level (suc zero) range new (record levels { runs = newer_runs tables levels.runs })
lowered (suc i) range tables new levels = with_level (suc i) range [] (with_level (suc (suc i)) range new levels)

-- A merge of n upper tables with this hull lowers them. Where n is 0, its outputs come into the place of the tables of the next
-- level that meet the hull, and no other level changes.
abbrev pub replaced : ℕ → KeyRange → ℕ → List Table → Levels → Levels
replaced i range zero new levels = with_level (suc i) range new levels
replaced i range (suc n) new levels = lowered i range (suc n) new levels

abbrev pub merged_at : ℕ → Option KeyRange → ℕ → List Table → Levels → Levels
merged_at i (Some range) tables new levels = replaced i range tables new levels
merged_at i None tables new levels = levels

-- The keys in which a merge replaces tables of its output level: the hull of the upper tables, or of the lower ones where there is
-- no upper table.
abbrev pub reach : List Table → List Table → Option KeyRange
reach [] lower = hull lower
reach (t ∷ rest) lower = hull (t ∷ rest)

-- the levels after a merge of these tables of a level and of the next, with its outputs
abbrev pub merged : ℕ → List Table → List Table → List Table → Levels → Levels
merged i upper lower new levels = merged_at i (reach upper lower) (length upper) new levels
