-- Where the batches of a store lie on its device, tables and all.
use Rattle.std.specs.Prelude.{◌≡◌, ◌≤◌, ℕ, ◌+◌, ◌*◌, true, List, [], ◌++◌, length, All}
use Rattle.lsm_codec.specs.Manifests.{Contents}
use Rattle.lsm_codec.specs.Map.{Map, Operation, apply_all}
use Rattle.lsm_codec.specs.declared.table_record.TableRecord.{TableRecord}
use Rattle.lsm_device.specs.Areas.{disk_in, IsOutside}
use Rattle.lsm_device.specs.Disk.{Disk, Write, seen}
use Rattle.lsm_log.specs.Batches.{IsBetween}
use Rattle.lsm_log.specs.Opened.{NoneAboveIn}
use Rattle.lsm_mem.specs.Versions.{map_of}
use Rattle.lsm_root.specs.CrashState.{CrashState}
use Rattle.lsm_open.specs.LogRegions.{first_region, all_batches, follow_on, one_if_some}
use Rattle.lsm_open.specs.Layout.{Layout, open_records, open_batches, IsClosed, IsLogAtIfOpen}
use Rattle.lsm_open.specs.Tables.{first_data, extent_start, extent_length, table_versions, AreTables}
use Rattle.lsm_root.specs.Installed.{IsSettled}
use Rattle.lsm_root.specs.Roots.{Stands, root_of}

-- Where a store's batches lie: up to the base in tables, the newer places first; then in the closed regions, the older
-- first; then in the open log, if one is open.
pub record Placement : Type 0 where
  pub logs : Layout
  pub runs : ℕ
  pub tables : List TableRecord

-- the manifest that says so
abbrev pub contents_for : Placement → Contents
contents_for p = record { generation = p.logs.generation; base = p.logs.base; next_table = p.logs.next_table; runs = p.runs; logs = p.logs.closed ++ open_records p.logs.open_region; tables = p.tables }

-- the map of the tables
abbrev pub table_map : Placement → List (List ℕ) → Map
table_map p sectors = map_of (table_versions p.logs.log_sectors sectors p.tables) p.logs.base

-- the batches in the closed regions
abbrev pub closed_in : Placement → List (List ℕ) → List (List Operation)
closed_in p sectors = all_batches p.logs.log_sectors sectors p.logs.closed

-- nothing pends in a table's extent
abbrev pub IsStill : Placement → Disk → TableRecord → Type 0
IsStill p d t = (disk_in (extent_start p.logs.log_sectors t) (extent_length t) d).pending ≡ []

-- After the root the disk holds what the placement says: the tables, and nothing pends in them; the closed regions, and
-- nothing pends there; the open log; and no log sector of an epoch above the generation.
pub record IsHeld (p : Placement) (d : Disk) : Type 0 where
  pub inside : first_region + 3 * p.logs.log_sectors ≤ length d.stands
  pub closed : All (IsClosed p.logs d) p.logs.closed
  pub follows : follow_on p.logs.log_sectors d.stands (p.logs.base + 1) (contents_for p).logs ≡ true
  pub opened : IsLogAtIfOpen p.logs d p.logs.open_region
  pub above : NoneAboveIn p.logs.generation first_region (3 * p.logs.log_sectors) d
  pub tables : AreTables p.logs.log_sectors p.logs.base p.tables d.stands
  pub still : All (IsStill p d) p.tables

-- The disk carries the placement: its manifest stands, nothing pends at the root, and after the root it holds the rest.
pub record Carries (d : Disk) (p : Placement) : Type 0 where
  pub root : root_of d.stands ≡ Stands p.logs.log_sectors (contents_for p)
  pub settled : IsSettled d
  pub held : IsHeld p d

-- what a crash leaves where these are the batches of the open log: the map of the tables, with the batches of the closed
-- regions and then these applied
abbrev pub state_with : Placement → List (List ℕ) → List (List Operation) → CrashState
state_with p sectors batches = record {
  count = p.logs.base + length (closed_in p sectors ++ batches);
  map = apply_all (table_map p sectors) (closed_in p sectors ++ batches);
  closed = length p.logs.closed + one_if_some batches;
  generation = p.logs.generation;
}

-- what is left where all that reads give is kept
abbrev pub present_state : Placement → Disk → CrashState
present_state p d = state_with p d.stands (open_batches p.logs.open_region (seen d))

-- A crash may leave this of a disk that carries the placement: of the batches that reads give of the open log a beginning
-- is kept, which has all that stand.
pub record MayBeLeft (p : Placement) (d : Disk) (left : CrashState) : Type 0 where
  pub kept : List (List Operation)
  pub between : IsBetween (open_batches p.logs.open_region d.stands) (open_batches p.logs.open_region (seen d)) kept
  pub left_is : left ≡ state_with p d.stands kept

-- a write to a block of no table: in the data area, and in no table's extent
pub record IsFreeWrite (p : Placement) (w : Write) : Type 0 where
  pub low : first_data p.logs.log_sectors ≤ w.at
  pub free : All (λ t. IsOutside (extent_start p.logs.log_sectors t) (extent_length t) w) p.tables
