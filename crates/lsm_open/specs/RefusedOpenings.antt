-- When an opening is refused for what the device holds.
use Rattle.std.specs.Prelude.{ℕ, List, Option, Some, None}
use Rattle.lsm_device.specs.declared.refusal.Refusal.{Refusal}
use Rattle.lsm_device.specs.declared.refusal.Refusal.TheVariants.{BadTable}
use Rattle.lsm_levels.specs.Levels.{Levels}
use Rattle.lsm_codec.specs.Manifests.{Contents}
use Rattle.lsm_open.specs.Counting.{counted}
use Rattle.lsm_open.specs.Opening.{manifest_refusal}
use Rattle.lsm_open.specs.ToldTables.{told_levels}
use Rattle.lsm_root.specs.Loaded.{refusal_of}
use Rattle.lsm_root.specs.Roots.{Root, Missing, Damaged, OtherSize, Unreadable, Stands, root_of}

-- the count of deletes comes before the tables, and these before the regions
abbrev pub refusal_behind : Option Levels → Option Refusal → Option Refusal
refusal_behind None after = Some BadTable
refusal_behind (Some levels) after = after

abbrev pub counted_refusal : ℕ → List (List ℕ) → Option Contents → Option Refusal
counted_refusal log_sectors sectors None = Some BadTable
counted_refusal log_sectors sectors (Some manifest) = refusal_behind (told_levels log_sectors sectors manifest) (manifest_refusal log_sectors sectors manifest)

abbrev pub named_refusal : List (List ℕ) → Root → Option Refusal
named_refusal sectors Missing = refusal_of Missing
named_refusal sectors Damaged = refusal_of Damaged
named_refusal sectors OtherSize = refusal_of OtherSize
named_refusal sectors Unreadable = refusal_of Unreadable
named_refusal sectors (Stands log_sectors manifest) = counted_refusal log_sectors sectors (counted log_sectors sectors manifest)

-- The refusal of an opening of a device that reads give these sectors of, if it is refused for what it
-- holds: the root doesn't stand, a table that the manifest names is invalid or can't be counted, a region's first batch doesn't come next,
-- or there is no next generation.
abbrev pub opening_refusal : List (List ℕ) → Option Refusal
opening_refusal sectors = named_refusal sectors (root_of sectors)
