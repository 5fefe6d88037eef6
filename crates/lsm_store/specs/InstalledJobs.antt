-- What jobs place, and what an install of a job's outputs makes of the tables that a manifest names.
use Rattle.std.specs.Prelude.{◌≡◌, ℕ, zero, suc, ◌+◌, ◌-◌, min, Bool, true, false, List, [], ◌∷◌, ◌++◌, length, map, filter, take, drop, Option, Some, None}
use Rattle.lsm_codec.specs.Versions.{Version}
use Rattle.lsm_codec.specs.declared.table_record.TableRecord.{TableRecord}
use Rattle.lsm_device.specs.Disk.{Disk, seen}
use Rattle.lsm_levels.specs.Levels.{Levels, level, newer_runs, reach}
use Rattle.lsm_levels.specs.Pick.{Job, Flush, Merge, is_flush, installed_levels}
use Rattle.lsm_levels.specs.Tables.{Table, KeyRange, record_of, is_below, meets}
use Rattle.lsm_jobs.specs.Pieces.{sectors_of, sector_count, written_of}
use Rattle.lsm_jobs.specs.Slots.{Slot, Slots, with_held, outputs_at, left_at}
use Rattle.lsm_mem.specs.EntryOrder.{with_batches}
use Rattle.lsm_open.specs.declared.regions.OpenRegion.{OpenRegion}
use Rattle.lsm_open.specs.Layout.{Layout, open_batches}
use Rattle.lsm_open.specs.Placements.{Placement, closed_in}
use Rattle.lsm_open.specs.Switching.{flushed, merged, Parts, with_outputs}
use Rattle.lsm_open.specs.ToldTables.{records_of_runs, records_of_levels}
use Rattle.lsm_open.specs.Writing.{PlacedTable}

-- ---- what jobs have placed

-- the level that a job's outputs go into
abbrev pub output_level : Job → ℕ
output_level Flush = 0
output_level (Merge i upper lower) = suc i

-- the records of a job's outputs: of a flush those of the newest run
abbrev pub output_records : Job → List Table → List TableRecord
output_records job outputs = map (record_of (output_level job) 0) outputs

-- outputs as they are placed in a level, of whose sectors, counted through them, the first `written` are written
abbrev pub placed_outputs : ℕ → ℕ → List Table → List PlacedTable
placed_outputs level written [] = []
placed_outputs level written (t ∷ rest) = record { table = record_of level 0 t; image = sectors_of t; done = min written (sector_count t) } ∷ placed_outputs level (written - sector_count t) rest

-- what a job has placed, nothing where it is not writing
abbrev pub placed_for : Slot → List PlacedTable
placed_for slot = placed_outputs (output_level slot.job) (written_of (outputs_at slot.stage) (left_at slot.stage)) (outputs_at slot.stage)

-- what all jobs have placed
abbrev pub placed_by : Slots → List PlacedTable
placed_by [] = []
placed_by (None ∷ rest) = placed_by rest
placed_by (Some slot ∷ rest) = placed_for slot ++ placed_by rest

-- What jobs have placed is what stands before that of one of them, this, and what stands after it; as the job goes on its own
-- is another, and without the job there is the rest.
pub record HasPlaced (slots : Slots) (job : ℕ) (slot : Slot) : Type 0 where
  pub before : List PlacedTable
  pub behind : List PlacedTable
  pub own : placed_by slots ≡ before ++ (placed_for slot ++ behind)
  pub others : placed_by (with_held job None slots) ≡ before ++ behind
  pub changed : (now : Slot) → placed_by (with_held job (Some now) slots) ≡ before ++ (placed_for now ++ behind)

-- sealed versions are those of the batches in the closed regions
abbrev pub AreSealedIn : Placement → List (List ℕ) → List Version → Type 0
AreSealedIn p sectors sealed = sealed ≡ with_batches p.logs.base (closed_in p sectors) []

-- versions in memory are those of the batches of the open log, numbered after those in the closed regions
abbrev pub AreLoggedIn : Placement → List (List ℕ) → List Version → Type 0
AreLoggedIn p sectors memory = memory ≡ with_batches (p.logs.base + length (closed_in p sectors)) (open_batches p.logs.open_region sectors) []

-- ---- the parts of a manifest's list around a merge

-- of tables those that end before a range, those that meet it, and those that begin after it
abbrev pub ending_before : KeyRange → List Table → List Table
ending_before range tables = filter (λ t. is_below t.last range.first) tables

abbrev pub that_meet : KeyRange → List Table → List Table
that_meet range tables = filter (meets range) tables

abbrev pub beginning_behind : KeyRange → List Table → List Table
beginning_behind range tables = filter (λ t. is_below range.last t.first) tables

-- the oldest runs of these, which together hold `tables` tables
abbrev pub runs_holding : ℕ → List (List Table) → List (List Table)
runs_holding tables runs = drop (length (newer_runs tables runs)) runs

-- The records of tables around a merge of n tables of a level with this range. Where n is 0 it rewrites those of the next level
-- that meet the range; else its upper tables are in level 0 the oldest runs, which together hold n, in others those that meet it;
-- and the lower ones those that meet it.
abbrev pub parts_at : Levels → ℕ → KeyRange → ℕ → Parts
parts_at levels i range zero = record {
  before = records_of_runs 0 levels.runs ++ (records_of_levels 1 (take i levels.deeper) ++ map (record_of (suc i) 0) (ending_before range (level levels (suc i))));
  upper = [];
  between = [];
  lower = map (record_of (suc i) 0) (that_meet range (level levels (suc i)));
  behind = map (record_of (suc i) 0) (beginning_behind range (level levels (suc i))) ++ records_of_levels (suc (suc i)) (drop (suc i) levels.deeper);
}
parts_at levels zero range (suc more) = record {
  before = records_of_runs 0 (newer_runs (suc more) levels.runs);
  upper = records_of_runs (length (newer_runs (suc more) levels.runs)) (runs_holding (suc more) levels.runs);
  between = map (record_of 1 0) (ending_before range (level levels 1));
  lower = map (record_of 1 0) (that_meet range (level levels 1));
  behind = map (record_of 1 0) (beginning_behind range (level levels 1)) ++ records_of_levels 2 (drop 1 levels.deeper);
}
parts_at levels (suc i) range (suc more) = record {
  before = records_of_runs 0 levels.runs ++ (records_of_levels 1 (take i levels.deeper) ++ map (record_of (suc i) 0) (ending_before range (level levels (suc i))));
  upper = map (record_of (suc i) 0) (that_meet range (level levels (suc i)));
  between = map (record_of (suc i) 0) (beginning_behind range (level levels (suc i))) ++ map (record_of (suc (suc i)) 0) (ending_before range (level levels (suc (suc i))));
  lower = map (record_of (suc (suc i)) 0) (that_meet range (level levels (suc (suc i))));
  behind = map (record_of (suc (suc i)) 0) (beginning_behind range (level levels (suc (suc i)))) ++ records_of_levels (suc (suc (suc i))) (drop (suc (suc i)) levels.deeper);
}

abbrev pub parts_if : Levels → ℕ → Option KeyRange → ℕ → Parts
parts_if levels i (Some range) tables = parts_at levels i range tables
parts_if levels i None tables = record { before = []; upper = []; between = []; lower = []; behind = [] }

-- the parts around a merge of these tables of a level with these of the next one
abbrev pub parts_of : Levels → ℕ → List Table → List Table → Parts
parts_of levels i upper lower = parts_if levels i (reach upper lower) (length upper)

-- ---- the placement after an install

-- The placement after an install of a job's outputs, where the next table has this number: after a flush with the batches of
-- the closed regions in tables.
abbrev pub installed_in : Placement → Disk → Levels → Job → ℕ → List Table → Placement
installed_in p d levels Flush next_table new = flushed p (length (closed_in p (seen d))) next_table (output_records Flush new)
installed_in p d levels (Merge i upper lower) next_table new =
    merged p next_table (length (installed_levels levels (Merge i upper lower) new).runs) (with_outputs (parts_of levels i upper lower) (output_records (Merge i upper lower) new))

-- the first batch of the open log, or the next batch where no log is open
abbrev pub first_open : ℕ → Option OpenRegion → ℕ
first_open count (Some o) = o.log.first
first_open count None = count + 1

-- The layout after an install of a flush, or of a merge, at `count` batches, where the next table has this number: after a
-- flush all batches before the open log are in tables, and no region is closed.
abbrev pub layout_after : Bool → Layout → ℕ → ℕ → Layout
layout_after true l count next_table = record l { generation = l.generation + 1; base = first_open count l.open_region - 1; next_table = next_table; closed = [] }
layout_after false l count next_table = record l { generation = l.generation + 1; next_table = next_table }

abbrev pub installed_layout : Layout → ℕ → ℕ → Job → Layout
installed_layout l count next_table job = layout_after (is_flush job) l count next_table
