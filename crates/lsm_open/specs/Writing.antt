-- What jobs write of tables before these are installed.
use Rattle.std.specs.Prelude.{◌≡◌, ◌≤◌, ℕ, ◌+◌, List, length, map, take, All}
use Rattle.lsm_codec.specs.declared.table_record.TableRecord.{TableRecord}
use Rattle.lsm_codec.specs.Pairs.{Pairwise}
use Rattle.lsm_codec.specs.TableRecords.{AreApart}
use Rattle.lsm_device.specs.Disk.{Disk, seen}
use Rattle.lsm_open.specs.Placements.{Placement, Carries}
use Rattle.lsm_open.specs.Tables.{extent_start, extent_length, extent_at}

-- A table that a job writes: its record, with the extent that was taken for it, the sectors of its image, and how many of
-- these are written.
pub record PlacedTable : Type 0 where
  pub table : TableRecord
  pub image : List (List ℕ)
  pub done : ℕ

-- the records of placed tables
abbrev pub tables_of : List PlacedTable → List TableRecord
tables_of placed = map (λ x. x.table) placed

-- of an image that is placed at the extent of a record, reads give the first `done` sectors
pub record IsWritten (log_sectors : ℕ) (d : Disk) (x : PlacedTable) : Type 0 where
  pub whole : length x.image ≡ extent_length x.table
  pub inside : extent_start log_sectors x.table + extent_length x.table ≤ length d.stands
  pub among : x.done ≤ length x.image
  pub reads : take x.done (extent_at log_sectors (seen d) x.table) ≡ take x.done x.image

abbrev pub ArePlacedApart : PlacedTable → PlacedTable → Type 0
ArePlacedApart x y = AreApart x.table y.table

-- its extent has no block in common with that of a table
abbrev pub IsClear : Placement → PlacedTable → Type 0
IsClear p x = All (AreApart x.table) p.tables

-- A disk that carries a placement, along with what jobs have placed: no two extents have a block in common, of tables or of
-- what is placed, and reads give what the jobs have written.
pub record CarriesJobs (p : Placement) (placed : List PlacedTable) (d : Disk) : Type 0 where
  pub carried : Carries d p
  pub tables : Pairwise AreApart p.tables
  pub clear : All (IsClear p) placed
  pub apart : Pairwise ArePlacedApart placed
  pub written : All (IsWritten p.logs.log_sectors d) placed

-- A table may be placed: its extent lies on the device and is free, and nothing of it is written.
pub record MayBePlaced (p : Placement) (placed : List PlacedTable) (d : Disk) (x : PlacedTable) : Type 0 where
  pub clear : IsClear p x
  pub apart : All (λ y. ArePlacedApart y x) placed
  pub none : x.done ≡ 0
  pub whole : length x.image ≡ extent_length x.table
  pub inside : extent_start p.logs.log_sectors x.table + extent_length x.table ≤ length d.stands
