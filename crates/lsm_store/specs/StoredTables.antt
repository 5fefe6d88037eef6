-- How a running store with tables goes with its device.
use Rattle.std.specs.Prelude.{◌≡◌, ℕ, List, [], ◌++◌, length, All, Some, None, option_map}
use Rattle.lsm_codec.specs.Map.{Map, Operation}
use Rattle.lsm_device.specs.Disk.{Disk, seen}
use Rattle.lsm_open.specs.declared.regions.OpenRegion.{OpenRegion}
use Rattle.lsm_open.specs.Layout.{open_batches}
use Rattle.lsm_open.specs.Placements.{Placement, table_map, closed_in, Carries}
use Rattle.lsm_open.specs.Switching.{MayBeInstalled}
use Rattle.lsm_open.specs.Tables.{extent_at}
use Rattle.lsm_open.specs.Writing.{PlacedTable, CarriesJobs}
use Rattle.lsm_machine.specs.Crash.{last_crash_state}
use Rattle.lsm_machine.specs.Promise.{beginnings}
use Rattle.lsm_machine.specs.State.{State}
use Rattle.lsm_store.specs.Stored.{open_log_of}

-- The state says of the log regions and the generation what the placement says, and the store runs.
pub record IsStateIn (p : Placement) (s : State) : Type 0 where
  pub log_sectors : s.log_sectors ≡ p.logs.log_sectors
  pub generation : s.generation ≡ p.logs.generation
  pub closed : s.closed ≡ length p.logs.closed
  pub open_log : s.open_log ≡ option_map open_log_of p.logs.open_region
  pub running : s.stopped ≡ None

-- The state of a store over tables: its recovery points are the map of the tables with the batches applied that stand, and
-- one more for each that reads give.
pub record IsStateOver (p : Placement) (base : Map) (standing reads : List (List Operation)) (s : State) : Type 0 where
  pub placed : IsStateIn p s
  pub points : s.points ≡ beginnings p.logs.base base reads (length standing)

-- A running store: the disk carries its placement, and its state is that of the tables and the batches there.
pub record IsStoredIn (p : Placement) (s : State) (d : Disk) : Type 0 where
  pub carried : Carries d p
  pub state : IsStateOver p (table_map p d.stands) (closed_in p d.stands ++ open_batches p.logs.open_region d.stands) (closed_in p d.stands ++ open_batches p.logs.open_region (seen d)) s

-- a running store with its tables and what its jobs have placed
pub record IsStoredWithJobs (p : Placement) (placed : List PlacedTable) (s : State) (d : Disk) : Type 0 where
  pub stored : IsStoredIn p s d
  pub jobs : CarriesJobs p placed d

-- reads give what they gave in the extents of the tables
abbrev pub KeepsExtents : Placement → Disk → Disk → Type 0
KeepsExtents p old new = All (λ t. extent_at p.logs.log_sectors (seen new) t ≡ extent_at p.logs.log_sectors (seen old) t) p.tables

-- the placement with this log open, in the same region
abbrev pub with_log : Placement → OpenRegion → Placement
with_log p o = record p { logs = record p.logs { open_region = Some o } }

-- the placement with another number for the next table
abbrev pub with_next : ℕ → Placement → Placement
with_next n p = record p { logs = record p.logs { next_table = n } }

-- A store may go on in this placement and this state after an installation on a disk: the placement may be installed, and
-- leaves the present map of the state, in which all batches are synced.
pub record MayGoOn (q : Placement) (t : State) (d : Disk) : Type 0 where
  pub next : MayBeInstalled q (last_crash_state t) d
  pub placed : IsStateIn q t
  pub synced : t.points.later ≡ []
