-- What the sectors of a device stand for.
use Rattle.std.specs.Prelude.{◌≡◌, ℕ, ◌+◌, ◌*◌, true, List, [], ◌++◌, length}
use Rattle.lsm_codec.specs.Manifests.{Contents}
use Rattle.lsm_codec.specs.Versions.{Version}
use Rattle.lsm_device.specs.Areas.{area}
use Rattle.lsm_log.specs.Opened.{HasNoneAbove}
use Rattle.lsm_mem.specs.EntryOrder.{with_batches}
use Rattle.lsm_mem.specs.Versions.{map_of}
use Rattle.lsm_root.specs.CrashState.{CrashState}
use Rattle.lsm_open.specs.LogRegions.{first_region, all_batches, follow_on, regions_with_batches}
use Rattle.lsm_open.specs.Tables.{table_versions, AreTables}
use Rattle.lsm_root.specs.Roots.{Stands, root_of}

-- how many batches there are: those in tables, and those that the regions replay to
abbrev pub count_in : ℕ → List (List ℕ) → Contents → ℕ
count_in log_sectors sectors m = m.base + length (all_batches log_sectors sectors m.logs)

-- all versions: those of the batches that the regions replay to, and those of the tables
abbrev pub versions_in : ℕ → List (List ℕ) → Contents → List Version
versions_in log_sectors sectors m = with_batches m.base (all_batches log_sectors sectors m.logs) [] ++ table_versions log_sectors sectors m.tables

-- what a crash left, by the manifest that stands: the map is that of all versions at the count
abbrev pub left_in : ℕ → List (List ℕ) → Contents → CrashState
left_in log_sectors sectors m = record {
  count = count_in log_sectors sectors m;
  map = map_of (versions_in log_sectors sectors m) (count_in log_sectors sectors m);
  closed = regions_with_batches log_sectors sectors m.logs;
  generation = m.generation;
}

-- What sectors hold for what a manifest names: the tables stand, the regions follow on, and no log sector is of an epoch
-- above the generation.
pub record HoldNamed (log_sectors : ℕ) (m : Contents) (sectors : List (List ℕ)) : Type 0 where
  pub tables : AreTables log_sectors m.base m.tables sectors
  pub follows : follow_on log_sectors sectors (m.base + 1) m.logs ≡ true
  pub fresh : HasNoneAbove m.generation (area first_region (3 * log_sectors) sectors)

-- Sectors stand for what a crash left, in a format with log regions of `log_sectors` sectors: a manifest stands there, they
-- hold what it names, and that is what was left.
pub record StandFor (log_sectors : ℕ) (left : CrashState) (sectors : List (List ℕ)) : Type 0 where
  pub manifest : Contents
  pub root : root_of sectors ≡ Stands log_sectors manifest
  pub holds : HoldNamed log_sectors manifest sectors
  pub left_is : left ≡ left_in log_sectors sectors manifest

-- sectors stand for some crash state of these
abbrev pub StandForSome : ℕ → (CrashState → Type 0) → List (List ℕ) → Type 0
StandForSome log_sectors P sectors = (left : CrashState) × P left × StandFor log_sectors left sectors
