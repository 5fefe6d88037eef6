-- What an opening makes of sectors, and of what a crash left.
use Rattle.std.specs.Prelude.{◌≡◌, ◌≢◌, ◌<◌, ◌≤◌, ◌⊎◌, ◌↔◌, ℕ, ◌+◌, Bool, List, [], ◌∷◌, ◌++◌, length, map, Contains, Option, Some, None, option_map}
use Rattle.std.specs.List.{AllByRecursion}
use Rattle.lsm_codec.specs.Geometry.{data_blocks_of}
use Rattle.lsm_codec.specs.Manifests.{Contents, IsManifest, sector_count}
use Rattle.lsm_codec.specs.Versions.{Version, IsEntry, AreOrdered}
use Rattle.lsm_codec.specs.declared.table_record.TableRecord.{TableRecord}
use Rattle.lsm_device.specs.Calls.{AtMost, after_sync, more}
use Rattle.lsm_device.specs.declared.calls.Calls.{Calls}
use Rattle.lsm_device.specs.Disk.{Disk, seen, synced}
use Rattle.lsm_device.specs.History.{Becomes, EachSince}
use Rattle.lsm_device.specs.Medium.{Medium, disk}
use Rattle.lsm_device.specs.Outcomes.{Leaves}
use Rattle.lsm_device.specs.declared.refusal.Refusal.{Refusal}
use Rattle.lsm_device.specs.declared.refusal.Refusal.TheVariants.{BadTable}
use Rattle.lsm_extent.specs.Area.{Area}
use Rattle.lsm_levels.specs.Held.{AreRuns}
use Rattle.lsm_levels.specs.Levels.{Levels, all_tables, places}
use Rattle.lsm_levels.specs.Orders.{IsVersionOrder}
use Rattle.lsm_levels.specs.Stored.{AreStored, AreWithin, AreNumberedBelow}
use Rattle.lsm_levels.specs.Tables.{versions_of}
use Rattle.lsm_mem.specs.EntryOrder.{with_batches}
use Rattle.lsm_mem.specs.Versions.{NumberedAtMost, NumberedBelow, map_of, sealed_versions}
use Rattle.lsm_open.specs.Answered.{IsNewRegionIfOpen}
use Rattle.lsm_open.specs.Counting.{IsCountedRoot}
use Rattle.lsm_root.specs.CrashState.{CrashState, last_number, in_next_generation, left_by_opening, MayRefuseOpening}
use Rattle.lsm_open.specs.Image.{count_in, StandForSome}
use Rattle.lsm_open.specs.Layout.{Layout, open_batches}
use Rattle.lsm_open.specs.LogRegions.{all_batches}
use Rattle.lsm_open.specs.Opening.{IsRefusalBesideBadTable}
use Rattle.lsm_open.specs.Placements.{Placement, contents_for, Carries, present_state}
use Rattle.lsm_open.specs.Reopening.{least_free}
use Rattle.lsm_open.specs.Switching.{IsInLeastFree, reopened_at}
use Rattle.lsm_open.specs.Tables.{first_data}
use Rattle.lsm_open.specs.ToldTables.{told_levels, records_of, AreOutlined, Held}
use Rattle.lsm_root.specs.Layout.{IsGeometry, LieInside, behind}
use Rattle.lsm_root.specs.Roots.{Stands, root_of}

-- ---- what is answered

-- the placement of a layout, with the tables of these records in levels
abbrev pub placed_in : Layout → Levels → List TableRecord → Placement
placed_in l levels tables = record { logs = l; runs = length levels.runs; tables = tables }

-- the versions of all tables in levels, the newer places first
abbrev pub level_versions : Levels → List Version
level_versions levels = versions_of (all_tables (places levels))

-- What an opening makes of sectors, where a manifest stands there, each of its tables counted: base, tables and next table number stay, the regions that
-- hold batches are closed, and a new log is open in the least free one, all in the next generation. Memory has just the
-- versions of these batches, sealed, where a region is closed, and levels are what the tables tell. The manifest of the
-- new placement stands, nothing pends, and after the root the sectors are the same.
pub record IsReopened (sectors : List (List ℕ)) (p : Placement) (count : ℕ) (sealed : Option (List Version)) (levels : Levels) (d : Disk) : Type 0 where
  pub manifest : Contents
  pub root : IsCountedRoot p.logs.log_sectors manifest sectors
  pub placed : p ≡ reopened_at p.logs.log_sectors sectors manifest p.logs.open_region
  pub least : IsInLeastFree p.logs.log_sectors (manifest.generation + 1) count p.logs.closed p.logs.open_region
  pub counts : count ≡ count_in p.logs.log_sectors sectors manifest
  pub remembers : sealed_versions sealed ≡ with_batches manifest.base (all_batches p.logs.log_sectors sectors manifest.logs) []
  pub told : told_levels p.logs.log_sectors sectors manifest ≡ Some levels
  pub installed : root_of d.stands ≡ Stands p.logs.log_sectors (contents_for p)
  pub rests : d.pending ≡ []
  pub same_behind : behind d.stands ≡ behind sectors

-- The opening of what a crash left: the disk carries the placement, which leaves the same in the next generation; the
-- regions that hold batches are closed, a log that holds none is open after them, unless all three are closed, and nothing
-- pends. Memory and tables have the map that was left, in the order of versions: those of tables are of batches up to the
-- base, those in memory of later ones. And the tables stand.
pub record IsRecovered (log_sectors : ℕ) (left : CrashState) (p : Placement) (count : ℕ) (sealed : Option (List Version)) (levels : Levels) (d : Disk) : Type 0 where
  pub carried : Carries d p
  pub present : present_state p d ≡ in_next_generation left
  pub all_closed : (p.logs.open_region ≡ None) ↔ (length p.logs.closed ≡ 3)
  pub rests : d.pending ≡ []
  pub empty : open_batches p.logs.open_region d.stands ≡ []
  pub log_size : p.logs.log_sectors ≡ log_sectors
  pub has_next : left.generation ≢ last_number
  pub count_is : count ≡ left.count
  pub same_map : map_of (sealed_versions sealed ++ level_versions levels) count ≡ left.map
  pub order : IsVersionOrder (sealed_versions sealed ∷ map versions_of (places levels))
  pub tabled : AllByRecursion (NumberedAtMost p.logs.base) (map versions_of (places levels))
  pub later : AllByRecursion (λ v. p.logs.base < v.number) (sealed_versions sealed)
  pub stored : AreStored (seen d) (first_data log_sectors) (places levels)

-- What holds of parts that were read from any device of this size, whatever it held: they are within the limits, memory is
-- sealed where a region is closed, in the order of entries, levels have just the tables of the records, each run in the order
-- of keys, within the device, and just their extents are handed out.
pub record AreWithinLimits (size : ℕ) (p : Placement) (count : ℕ) (sealed : Option (List Version)) (levels : Levels) (extents : Area) : Type 0 where
  pub geometry : IsGeometry size p.logs.log_sectors
  pub manifest : IsManifest (contents_for p)
  pub inside : LieInside size p.logs.log_sectors p.tables
  pub least : option_map (λ o. o.region) p.logs.open_region ≡ least_free p.logs.closed
  pub opened : IsNewRegionIfOpen size p.logs.log_sectors p.logs.generation count p.logs.open_region
  pub count_high : count ≤ last_number
  pub sealed_if : (sealed ≡ None) ↔ (length p.logs.closed ≡ 0)
  pub numbered : NumberedBelow (count + 1) (sealed_versions sealed)
  pub entries : AllByRecursion IsEntry (sealed_versions sealed)
  pub ordered : AreOrdered (sealed_versions sealed)
  pub runs : AreRuns levels
  pub named : records_of levels ≡ p.tables
  pub within : AreWithin size (first_data p.logs.log_sectors) (places levels)
  pub outlined : AreOutlined (places levels)
  pub numbers : AreNumberedBelow p.logs.next_table (places levels)
  pub held : Held (data_blocks_of size p.logs.log_sectors) p.tables extents

-- ---- what is refused, and what crashes leave

-- the refusals that an opening may answer, whatever the device holds
abbrev pub IsOpeningRefusal : Refusal → Type 0
IsOpeningRefusal e = (e ≡ BadTable) ⊎ IsRefusalBesideBadTable e

-- The calls of such an opening: a sync, and then at most these.
abbrev pub BeginsWithSync : Calls → Calls → Type 0
BeginsWithSync old new = (ok : Bool) × AtMost 587842 42 2 (after_sync ok old) new

-- A manifest was written, with one superblock and nothing else, among `syncs` syncs.
pub record HasWritten (m : Contents) (syncs : ℕ) (old new : Calls) : Type 0 where
  pub written : new.writes ≡ more (sector_count m + 1) old.writes
  pub synced : new.syncs ≡ more syncs old.syncs

-- sectors stand for one of these
abbrev pub StandForOne : ℕ → List CrashState → List (List ℕ) → Type 0
StandForOne log_sectors all sectors = StandForSome log_sectors (Contains all) sectors

-- What crashes at each moment of an opening leave. Until its first sync has answered Ok nothing changes, so they leave
-- what they could before. That makes all that pended stand, and from then on they leave the same again, in this generation
-- or the next.
pub record CrashesWhileOpening (before : Medium) (log_sectors : ℕ) (left : CrashState) (after : Medium) : Type 0 where
  pub synced_history : List Disk
  pub first_sync : Becomes (synced (disk before)) before.history synced_history
  pub crash : EachSince (Leaves (StandForOne log_sectors (left_by_opening left))) synced_history after.history

-- An opening of a device whose reads stand for a crash state was refused, and gave the device back: the refusal is fair,
-- reads stand for the same again, and crashes too, unless nothing changed.
pub record FailsToOpen (before : Medium) (log_sectors : ℕ) (left : CrashState) (refusal : Refusal) (after : Medium) : Type 0 where
  pub fair : MayRefuseOpening left refusal
  pub again : StandForOne log_sectors (left_by_opening left) (seen (disk after))
  pub crash : (after.history ≡ before.history) ⊎ CrashesWhileOpening before log_sectors left after
