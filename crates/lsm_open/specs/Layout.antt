-- Where the batches of a store lie on its device.
use Rattle.std.specs.Prelude.{◌≡◌, ◌≢◌, ◌≤◌, ℕ, List, [], ◌∷◌, length, Option, Some, None}
use Rattle.lsm_codec.specs.declared.log_record.LogRecord.{LogRecord}
use Rattle.lsm_codec.specs.Map.{Operation}
use Rattle.lsm_device.specs.Disk.{Disk}
use Rattle.lsm_device.specs.Areas.{disk_in}
use Rattle.lsm_log.specs.Opened.{IsOpen, batches_in}
use Rattle.lsm_open.specs.LogRegions.{region_start, batches_at}
use Rattle.lsm_open.specs.declared.regions.OpenRegion.{OpenRegion}
use Rattle.lsm_open.specs.declared.regions.Regions.{Regions}

-- Where a store's batches lie: in tables up to the base, then in the closed regions, the older first, then in the open
-- log, if one is open.
pub record Layout : Type 0 where
  pub log_sectors : ℕ
  pub generation : ℕ
  pub base : ℕ
  pub next_table : ℕ
  pub closed : List LogRecord
  pub open_region : Option OpenRegion

-- the layout that a store keeps in memory
abbrev pub layout_of : {A : Type 0} → Regions A → Layout
layout_of r = record { log_sectors = r.log_sectors; generation = r.generation; base = r.base; next_table = r.next_table; closed = r.closed.items; open_region = r.open_region }

-- the log record of the open log
abbrev pub record_of : OpenRegion → LogRecord
record_of o = record { region = o.region; epoch = o.log.epoch; first_batch = o.log.first }

abbrev pub open_records : Option OpenRegion → List LogRecord
open_records (Some o) = record_of o ∷ []
open_records None = []

-- the batches of the open log, in these sectors
abbrev pub open_batches : Option OpenRegion → List (List ℕ) → List (List Operation)
open_batches (Some o) sectors = batches_in o.log sectors
open_batches None sectors = []

abbrev pub IsOther : Option OpenRegion → LogRecord → Type 0
IsOther (Some o) r = r.region ≢ o.region
IsOther None r = Unit {0}

-- a closed region: nothing pends there, it holds batches, and it is another one than the open log's
pub record IsClosed (l : Layout) (d : Disk) (r : LogRecord) : Type 0 where
  pub region : r.region ≤ 2
  pub settled : (disk_in (region_start l.log_sectors r.region) l.log_sectors d).pending ≡ []
  pub some : 1 ≤ length (batches_at l.log_sectors d.stands r)
  pub other : IsOther l.open_region r

-- The open log goes with its region, and its epoch was reached.
pub record IsLogAt (log_sectors generation : ℕ) (d : Disk) (o : OpenRegion) : Type 0 where
  pub region : o.region ≤ 2
  pub start : o.log.start ≡ region_start log_sectors o.region
  pub sectors : o.log.sectors ≡ log_sectors
  pub epoch : o.log.epoch ≤ generation
  pub is_open : IsOpen o.log d

abbrev pub IsLogAtIfOpen : Layout → Disk → Option OpenRegion → Type 0
IsLogAtIfOpen l d (Some o) = IsLogAt l.log_sectors l.generation d o
IsLogAtIfOpen l d None = Unit {0}
