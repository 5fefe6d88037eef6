-- What may be installed next: after a rotation, a flush, a merge and an opening.
use Rattle.std.specs.Prelude.{◌≡◌, ◌≤◌, ◌<◌, ◌⊎◌, ℕ, ◌+◌, ◌*◌, ◌==◌, List, [], ◌++◌, length, map, All, Option, Some, IsSome, option_map, if◌then◌else◌, Some}
use Rattle.std.specs.List.{AllByRecursion}
use Rattle.lsm_codec.specs.declared.log_record.LogRecord.{LogRecord}
use Rattle.lsm_codec.specs.declared.table_record.TableRecord.{TableRecord}
use Rattle.lsm_codec.specs.Manifests.{Contents}
use Rattle.lsm_codec.specs.Pairs.{Pairwise}
use Rattle.lsm_codec.specs.Versions.{Version}
use Rattle.lsm_device.specs.Disk.{Disk, seen, synced}
use Rattle.lsm_levels.specs.Orders.{IsVersionOrder}
use Rattle.lsm_mem.specs.EntryOrder.{with_batches}
use Rattle.lsm_merge.specs.Laws.{HaveSameMap}
use Rattle.lsm_root.specs.CrashState.{CrashState, last_number}
use Rattle.lsm_open.specs.LogRegions.{first_region, one_if_some}
use Rattle.lsm_open.specs.Layout.{Layout, open_records, open_batches}
use Rattle.lsm_open.specs.Image.{count_in, StandFor, StandForSome}
use Rattle.lsm_open.specs.Placements.{Placement, contents_for, closed_in, IsHeld, present_state}
use Rattle.lsm_open.specs.Reopening.{kept_records, least_free, IsNewIfOpen}
use Rattle.lsm_open.specs.Replacing.{HaveSameNewest, MayReplace}
use Rattle.lsm_open.specs.Tables.{versions_at, table_versions, IsTableAt, AscendInRun, AreTables}
use Rattle.lsm_open.specs.declared.regions.OpenRegion.{OpenRegion}
use Rattle.lsm_root.specs.Roots.{Stands, root_of}
use Rattle.lsm_table.specs.Division.{ShareNoKey}

-- A placement may be installed on a disk, and then leaves this: once all that pends stands, the disk holds it after the root,
-- and this is what it says.
pub record MayBeInstalled (q : Placement) (left : CrashState) (d : Disk) : Type 0 where
  pub held : IsHeld q (synced d)
  pub left_is : left ≡ present_state q (synced d)

-- Sectors within an installation: the root is the old one, and they stand for something of P, or it is the new one, and they
-- stand for what the new placement leaves.
abbrev pub IsSwitched : ℕ → (CrashState → Type 0) → Disk → Placement → CrashState → List (List ℕ) → Type 0
IsSwitched log_sectors P start q left sectors =
    ((root_of sectors ≡ root_of (seen start)) × StandForSome log_sectors P sectors) ⊎ ((root_of sectors ≡ Stands log_sectors (contents_for q)) × StandFor log_sectors left sectors)

-- ---- a rotation

-- The placement after a rotation, where no region was closed: the open log's is, if one was open, and a new log is open.
abbrev pub rotated_placement : Placement → OpenRegion → Placement
rotated_placement p o = record p { logs = record p.logs { generation = p.logs.generation + 1; closed = open_records p.logs.open_region; open_region = Some o } }

-- what it leaves: the same count and map
abbrev pub left_rotated : Placement → Disk → CrashState
left_rotated p d = record (present_state p d) { closed = length (open_records p.logs.open_region); generation = p.logs.generation + 1 }

-- What a rotation asks: no region is closed, the open log has a batch if one is open, and there is a next generation.
pub record MayRotate (p : Placement) (d : Disk) : Type 0 where
  pub none_closed : p.logs.closed ≡ []
  pub some : IsSome p.logs.open_region → 1 ≤ length (open_batches p.logs.open_region (seen d))
  pub generation : p.logs.generation + 1 ≤ last_number
  pub count : (present_state p d).count ≤ last_number

-- a new log in the least region that none of these records is of, if one is free
pub record IsInLeastFree (log_sectors generation count : ℕ) (closed : List LogRecord) (o : Option OpenRegion) : Type 0 where
  pub least : option_map (λ o. o.region) o ≡ least_free closed
  pub new_log : IsNewIfOpen log_sectors generation count o

-- The layout after a rotation at `count` batches: a new log is open in the least region that is free then.
pub record IsRotated (l : Layout) (count : ℕ) (next : Layout) : Type 0 where
  pub new_log : OpenRegion
  pub least : IsInLeastFree l.log_sectors (l.generation + 1) count (open_records l.open_region) (Some new_log)
  pub layout : next ≡ record l { generation = l.generation + 1; closed = open_records l.open_region; open_region = Some new_log }

-- ---- a flush

-- a table of level 0 is one run further down
abbrev pub pushed : TableRecord → TableRecord
pushed t = record t { run = if t.level == 0 then t.run + 1 else t.run }

-- The placement after a flush: `sealed` more batches are in tables, and the new ones are the newest run. No region is closed.
abbrev pub flushed : Placement → ℕ → ℕ → List TableRecord → Placement
flushed p sealed next_table new = record {
  logs = record p.logs { generation = p.logs.generation + 1; base = p.logs.base + sealed; next_table = next_table; closed = [] };
  runs = p.runs + 1;
  tables = new ++ map pushed p.tables;
}

-- what it leaves: the same count and map, and of the regions the open log's alone may hold batches
abbrev pub left_flushed : Placement → Disk → CrashState
left_flushed p d = record (present_state p d) { closed = one_if_some (open_batches p.logs.open_region (seen d)); generation = p.logs.generation + 1 }

abbrev pub IsNewestRun : TableRecord → Type 0
IsNewestRun t = (t.level ≡ 0) × (t.run ≡ 0)

-- The new tables are of the batches in the closed regions: each version is of one of these, and at their last number they
-- have the same newest versions.
pub record AreFlushed (p : Placement) (sectors : List (List ℕ)) (new : List TableRecord) : Type 0 where
  pub tables : AreTables p.logs.log_sectors (p.logs.base + length (closed_in p sectors)) new sectors
  pub newest_run : All IsNewestRun new
  pub later : AllByRecursion (λ v. p.logs.base < v.number) (table_versions p.logs.log_sectors sectors new)
  pub kept : HaveSameNewest (p.logs.base + length (closed_in p sectors)) (with_batches p.logs.base (closed_in p sectors) []) (table_versions p.logs.log_sectors sectors new)

-- ---- a merge of levels

-- the placement after a merge, with these tables
abbrev pub merged : Placement → ℕ → ℕ → List TableRecord → Placement
merged p next_table runs tables = record { logs = record p.logs { generation = p.logs.generation + 1; next_table = next_table }; runs = runs; tables = tables }

-- The parts of a list of tables around a merge: before its upper inputs, the upper inputs, between, the lower inputs, and
-- after.
pub record Parts : Type 0 where
  pub before : List TableRecord
  pub upper : List TableRecord
  pub between : List TableRecord
  pub lower : List TableRecord
  pub behind : List TableRecord

abbrev pub with_inputs : Parts → List TableRecord
with_inputs x = x.before ++ (x.upper ++ (x.between ++ (x.lower ++ x.behind)))

-- with the outputs in the place of the lower inputs
abbrev pub with_outputs : Parts → List TableRecord → List TableRecord
with_outputs x new = x.before ++ (x.between ++ (new ++ x.behind))

-- what the outputs keep: the newest versions of the inputs, or at the bottom their map, with none of their keys after
abbrev pub KeepsNewestOrMap : ℕ → List Version → List Version → List Version → Type 0
KeepsNewestOrMap n inputs behind outputs = HaveSameNewest n inputs outputs ⊎ (HaveSameMap n inputs outputs × ShareNoKey inputs behind)

-- The new tables are of what a merge keeps of its inputs, and stand in their run.
pub record AreMerged (p : Placement) (sectors : List (List ℕ)) (x : Parts) (new : List TableRecord) : Type 0 where
  pub was : p.tables ≡ with_inputs x
  pub each : All (IsTableAt p.logs.log_sectors p.logs.base sectors) new
  pub order : IsVersionOrder (map (versions_at p.logs.log_sectors sectors) new)
  pub ascend : Pairwise (AscendInRun p.logs.log_sectors sectors) (with_outputs x new)
  pub may : MayReplace (table_versions p.logs.log_sectors sectors x.upper) (table_versions p.logs.log_sectors sectors x.between) (table_versions p.logs.log_sectors sectors x.lower) (table_versions p.logs.log_sectors sectors new)
  pub kept : KeepsNewestOrMap p.logs.base (table_versions p.logs.log_sectors sectors x.upper ++ table_versions p.logs.log_sectors sectors x.lower) (table_versions p.logs.log_sectors sectors x.behind) (table_versions p.logs.log_sectors sectors new)

-- ---- an opening

-- the placement that an opening makes of what a manifest names
abbrev pub reopened_at : ℕ → List (List ℕ) → Contents → Option OpenRegion → Placement
reopened_at log_sectors sectors m o = record {
  logs = record { log_sectors = log_sectors; generation = m.generation + 1; base = m.base; next_table = m.next_table; closed = kept_records log_sectors sectors m.logs; open_region = o };
  runs = m.runs;
  tables = m.tables;
}

-- What holds of sectors that an opening goes on from: the regions are inside and few, and numbers go on.
pub record MayReopen (log_sectors : ℕ) (m : Contents) (sectors : List (List ℕ)) : Type 0 where
  pub inside : first_region + 3 * log_sectors ≤ length sectors
  pub low : All (λ r. r.region ≤ 2) (kept_records log_sectors sectors m.logs)
  pub generation : m.generation + 1 ≤ last_number
  pub count : count_in log_sectors sectors m ≤ last_number
