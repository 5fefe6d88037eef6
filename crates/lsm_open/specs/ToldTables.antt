-- What an opening reads of the tables that a manifest names.
use Rattle.std.specs.Prelude.{◌≡◌, ◌⊎◌, ◌≤◌, ℕ, zero, suc, ◌+◌, ◌*◌, ◌==◌, Bool, false, leb, IsTrue, List, [], ◌∷◌, ◌++◌, length, map, take, drop, filter, All, Contains, Option, Some, None, option_map, if◌then◌else◌}
use Rattle.std.specs.List.{AllByRecursion, list_any}
use Rattle.lsm_codec.specs.Manifests.{Contents}
use Rattle.lsm_codec.specs.Reading.{◌>>=◌}
use Rattle.lsm_codec.specs.TableRecords.{HasSizes, extent_blocks, extent_end}
use Rattle.lsm_codec.specs.Versions.{Version}
use Rattle.lsm_codec.specs.declared.table_record.TableRecord.{TableRecord}
use Rattle.lsm_device.specs.Calls.{AtMost, faults_after}
use Rattle.lsm_device.specs.Medium.{Medium}
use Rattle.lsm_device.specs.declared.refusal.Refusal.{Refusal}
use Rattle.lsm_device.specs.declared.refusal.Refusal.TheVariants.{NoMemory, Io, BadTable}
use Rattle.lsm_extent.specs.Area.{Area, covers, is_held}
use Rattle.lsm_extent.specs.declared.extent.Extent.{Extent}
use Rattle.lsm_levels.specs.Asking.{OnlyReads}
use Rattle.lsm_levels.specs.Levels.{Levels, all_tables, places}
use Rattle.lsm_levels.specs.Orders.{IsVersionOrder}
use Rattle.lsm_levels.specs.Stored.{AreStored}
use Rattle.lsm_levels.specs.Tables.{Table, table_at, record_of, is_run, versions_of}
use Rattle.lsm_mem.specs.Versions.{NumberedAtMost}
use Rattle.lsm_open.specs.Tables.{first_data, blocks_at, versions_at, table_versions}
use Rattle.lsm_table.specs.Stored.{outline_at}

-- ---- tables

-- the table that a record names, with these versions, as filter, index and footer in its extent tell it; none where they are
-- not those of such a table, or where the record tells no deletes
abbrev pub told_with : List Version → ℕ → List (List ℕ) → TableRecord → Option Table
told_with versions log_sectors sectors t = t.deletes >>= λ deletes. option_map (λ o. table_at o t.first_block deletes versions) (outline_at t (blocks_at log_sectors sectors t))

-- with the versions that its data blocks spell
abbrev pub told_table : ℕ → List (List ℕ) → TableRecord → Option Table
told_table log_sectors sectors t = told_with (versions_at log_sectors sectors t) log_sectors sectors t

-- those of records, one after the other, where each is told
abbrev pub told_tables : ℕ → List (List ℕ) → List TableRecord → Option (List Table)
told_tables log_sectors sectors [] = Some []
told_tables log_sectors sectors (t ∷ rest) = told_table log_sectors sectors t >>= λ table. told_tables log_sectors sectors rest >>= λ tables. Some (table ∷ tables)

-- ---- runs

-- The place of a record's run: first the runs of level 0, the newest first, then levels 1 to 4.
abbrev pub run_place : ℕ → ℕ → ℕ → ℕ
run_place runs run zero = run
run_place runs run (suc level) = runs + level

abbrev pub is_in_run : ℕ → ℕ → TableRecord → Bool
is_in_run runs k t = run_place runs t.run t.level == k

-- the records of the tables in the run at a place
abbrev pub run_records : Contents → ℕ → List TableRecord
run_records m k = filter (is_in_run m.runs k) m.tables

-- tables where they are a run: the keys of each are in order, and it ends before the next begins
abbrev pub run_if : List Table → Option (List Table)
run_if tables = if is_run tables then Some tables else None

-- the run at a place, where each of its tables is told and they are a run
abbrev pub told_run : ℕ → List (List ℕ) → Contents → ℕ → Option (List Table)
told_run log_sectors sectors m k = told_tables log_sectors sectors (run_records m k) >>= run_if

-- the first k runs
abbrev pub told_runs : ℕ → List (List ℕ) → Contents → ℕ → Option (List (List Table))
told_runs log_sectors sectors m zero = Some []
told_runs log_sectors sectors m (suc k) = told_runs log_sectors sectors m k >>= λ before. told_run log_sectors sectors m k >>= λ run. Some (before ++ run ∷ [])

-- the levels of these runs, of which the first `runs` are of level 0
abbrev pub levels_of : ℕ → List (List Table) → Levels
levels_of runs all = record { runs = take runs all; deeper = drop runs all }

-- the levels of the tables that a manifest names, where each is told and each run is one
abbrev pub told_levels : ℕ → List (List ℕ) → Contents → Option Levels
told_levels log_sectors sectors m = told_runs log_sectors sectors m (m.runs + 4) >>= λ all. Some (levels_of m.runs all)

-- A reading is refused where nothing is told, with BadTable then and only then; want of memory and a fault tell nothing.
abbrev pub IsRefusedFor : {X : Type 0} → Option X → Refusal → Type 0
IsRefusedFor told e = ((e ≡ BadTable) × (told ≡ None)) ⊎ ((e ≡ NoMemory) ⊎ (e ≡ Io))

-- the refusals that come of tables, whatever the device holds
abbrev pub IsTableRefusal : Refusal → Type 0
IsTableRefusal e = (e ≡ BadTable) ⊎ ((e ≡ NoMemory) ⊎ (e ≡ Io))

-- the table of a record lies in a device of this size
pub record IsReadable (log_sectors size : ℕ) (t : TableRecord) : Type 0 where
  pub sizes : HasSizes t
  pub inside : first_data log_sectors + 8 * extent_end t ≤ size

-- ---- what holds of levels that were read, whatever the device held

-- the records of runs of level 0, from this one on, and of levels from this one on
abbrev pub records_of_runs : ℕ → List (List Table) → List TableRecord
records_of_runs run [] = []
records_of_runs run (tables ∷ rest) = map (record_of 0 run) tables ++ records_of_runs (suc run) rest

abbrev pub records_of_levels : ℕ → List (List Table) → List TableRecord
records_of_levels level [] = []
records_of_levels level (tables ∷ rest) = map (record_of level 0) tables ++ records_of_levels (suc level) rest

-- the manifest's records of the tables in levels
abbrev pub records_of : Levels → List TableRecord
records_of levels = records_of_runs 0 levels.runs ++ records_of_levels 1 levels.deeper

-- Levels have just the tables that a manifest names, each in the level and the run of its record.
pub record HaveNamed (m : Contents) (levels : Levels) : Type 0 where
  pub runs : length levels.runs ≡ m.runs
  pub records : records_of levels ≡ m.tables

-- a table is that of its outline
abbrev pub IsOutlined : Table → Type 0
IsOutlined t = t ≡ table_at t.outline t.start t.deletes t.versions

-- so are all tables of runs
abbrev pub AreOutlined : List (List Table) → Type 0
AreOutlined runs = AllByRecursion (AllByRecursion IsOutlined) runs

-- A table has this record in its level and run, and is that of its outline.
pub record IsNamedBy (t : TableRecord) (table : Table) : Type 0 where
  pub listed : record_of t.level t.run table ≡ t
  pub outlined : IsOutlined table

-- tables are those of these records, one after the other
abbrev pub AreNamedBy : List TableRecord → List Table → Type 0
AreNamedBy [] [] = Unit {0}
AreNamedBy [] (table ∷ tables) = ⊥
AreNamedBy (t ∷ rest) [] = ⊥
AreNamedBy (t ∷ rest) (table ∷ tables) = IsNamedBy t table × AreNamedBy rest tables

-- The run at a place is read: it has the tables that the manifest names there, and where the device tells it is told so.
pub record IsRunRead (log_sectors : ℕ) (tells : Bool) (sectors : List (List ℕ)) (m : Contents) (k : ℕ) (tables : List Table) : Type 0 where
  pub named : AreNamedBy (run_records m k) tables
  pub told : IsTrue tells → told_run log_sectors sectors m k ≡ Some tables

-- so are those from a place on
abbrev pub AreRunsRead : ℕ → Bool → List (List ℕ) → Contents → ℕ → List (List Table) → Type 0
AreRunsRead log_sectors tells sectors m k [] = Unit {0}
AreRunsRead log_sectors tells sectors m k (tables ∷ rest) = IsRunRead log_sectors tells sectors m k tables × AreRunsRead log_sectors tells sectors m (suc k) rest

-- how many blocks these tables have besides data blocks: filter, index and footer of each
abbrev pub blocks_beside_data : List TableRecord → ℕ
blocks_beside_data [] = 0
blocks_beside_data (t ∷ rest) = (t.index_blocks + 2) + blocks_beside_data rest

-- and those in the runs from a place on
abbrev pub beside_data_from : Contents → ℕ → ℕ
beside_data_from m k = blocks_beside_data (filter (λ t. leb k (run_place m.runs t.run t.level)) m.tables)

-- ---- extents

-- the extent of a record's table
abbrev pub record_extent : TableRecord → Extent
record_extent t = record { first = t.first_block; blocks = extent_blocks t }

-- The data area of `blocks` blocks, where the extents of these tables are handed out, and no other block.
pub record Held (blocks : ℕ) (tables : List TableRecord) (area : Area) : Type 0 where
  pub size : area.blocks ≡ blocks
  pub each : All (λ t. Contains area.held (record_extent t)) tables
  pub only : (k : ℕ) → is_held area.held k ≡ list_any (λ t. covers k (record_extent t)) tables

-- ---- tables that stand

-- The tables of levels stand, their places are in the order of versions, and their versions are those of the tables that a
-- manifest names, none above the base.
pub record AreThose (log_sectors base : ℕ) (sectors : List (List ℕ)) (tables : List TableRecord) (levels : Levels) : Type 0 where
  pub stored : AreStored sectors (first_data log_sectors) (places levels)
  pub order : IsVersionOrder (map versions_of (places levels))
  pub numbered : AllByRecursion (NumberedAtMost base) (map versions_of (places levels))
  pub versions : versions_of (all_tables (places levels)) ≡ table_versions log_sectors sectors tables

-- ---- what is done to the device

-- At most `blocks` blocks were read, and nothing else was done to a device: `ok` is false just where a call faulted, which was
-- the last one.
pub record ReadsBlocks (blocks : ℕ) (ok : Bool) (old new : Medium) : Type 0 where
  pub calls : AtMost (8 * blocks) 0 0 old.calls new.calls
  pub faults : new.calls.faults ≡ faults_after ok old.calls.faults
  pub stops : ok ≡ false → IsTrue new.calls.last_faulted
  pub only_reads : OnlyReads old new
