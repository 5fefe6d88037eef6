-- What a check has read before it goes over the tables, as an opening would.
use Rattle.std.specs.Prelude.{◌≡◌, ◌⊎◌, ℕ, ◌+◌, ◌*◌, true, false, List, Some}
use Rattle.lsm_codec.specs.Geometry.{data_blocks_of}
use Rattle.lsm_codec.specs.Manifests.{Contents, IsManifestOf}
use Rattle.lsm_codec.specs.declared.superblock.FormatVersion.TheVariants.{Two}
use Rattle.lsm_device.specs.Areas.{area}
use Rattle.lsm_device.specs.declared.refusal.Refusal.{Refusal}
use Rattle.lsm_device.specs.declared.refusal.Refusal.TheVariants.{NoMemory, Io, BadManifest}
use Rattle.lsm_extent.specs.Area.{Area}
use Rattle.lsm_levels.specs.Held.{AreRuns}
use Rattle.lsm_levels.specs.Levels.{Levels, places}
use Rattle.lsm_levels.specs.Stored.{AreWithin}
use Rattle.lsm_log.specs.Opened.{HasNoneAbove}
use Rattle.lsm_open.specs.Counting.{IsCountedRoot}
use Rattle.lsm_open.specs.Image.{count_in}
use Rattle.lsm_open.specs.LogRegions.{first_region, follow_on}
use Rattle.lsm_open.specs.Tables.{first_data}
use Rattle.lsm_open.specs.ToldTables.{told_levels, HaveNamed, Held}
use Rattle.lsm_root.specs.Layout.{IsGeometry}

-- What holds of what was read, whatever the device held: the manifest is within the limits and tells the deletes of each table,
-- levels have just the tables that it names, in runs that lie within the device, and just their extents are handed out.
pub record AreNamed (size log_sectors : ℕ) (m : Contents) (levels : Levels) (extents : Area) : Type 0 where
  pub geometry : IsGeometry size log_sectors
  pub fits : IsManifestOf Two m
  pub named : HaveNamed m levels
  pub runs : AreRuns levels
  pub within : AreWithin size (first_data log_sectors) (places levels)
  pub held : Held (data_blocks_of size log_sectors) m.tables extents

-- The regions of a manifest follow on, no log sector is of a later epoch, and there are `batches` batches.
pub record HasBatches (log_sectors : ℕ) (sectors : List (List ℕ)) (m : Contents) (batches : ℕ) : Type 0 where
  pub follows : follow_on log_sectors sectors (m.base + 1) m.logs ≡ true
  pub fresh : HasNoneAbove m.generation (area first_region (3 * log_sectors) sectors)
  pub counted : batches ≡ count_in log_sectors sectors m

-- Its regions are refused so: they don't follow on, or else a log sector is of a later epoch.
abbrev pub IsRegionsRefusal : ℕ → List (List ℕ) → Contents → Refusal → Type 0
IsRegionsRefusal log_sectors sectors m e = (((e ≡ BadManifest) × (follow_on log_sectors sectors (m.base + 1) m.logs ≡ false)) ⊎ ((e ≡ NoMemory) ⊎ (e ≡ Io)))
    ⊎ ((e ≡ BadManifest) × (follow_on log_sectors sectors (m.base + 1) m.logs ≡ true) × ¬ HasNoneAbove m.generation (area first_region (3 * log_sectors) sectors))

-- What it says of the sectors that it was read from: the manifest is the one that stands there, with each table counted, levels
-- are those that its tables tell, and so are its batches.
pub record AreToldBy (log_sectors : ℕ) (sectors : List (List ℕ)) (m : Contents) (levels : Levels) (batches : ℕ) : Type 0 where
  pub root : IsCountedRoot log_sectors m sectors
  pub told : told_levels log_sectors sectors m ≡ Some levels
  pub has : HasBatches log_sectors sectors m batches
