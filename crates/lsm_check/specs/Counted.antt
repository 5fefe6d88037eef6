-- How much of a device a check has read, whatever the device holds.
use Rattle.std.specs.Prelude.{◌≡◌, ◌≤◌, ℕ, ◌+◌, ◌*◌, List, [], ◌∷◌, length, Result, Ok, Err}
use Rattle.lsm_codec.specs.Geometry.{data_blocks_of}
use Rattle.lsm_codec.specs.Manifests.{Contents, IsManifest}
use Rattle.lsm_device.specs.Calls.{more}
use Rattle.lsm_device.specs.declared.calls.Calls.{Calls}
use Rattle.lsm_levels.specs.Tables.{Table}
use Rattle.lsm_open.specs.Counting.{all_data}
use Rattle.lsm_root.specs.Layout.{IsGeometry}
use Rattle.lsm_check.specs.Images.{blocks_in_none}
use Rattle.lsm_check.specs.declared.finding.Finding.{Finding}
use Rattle.lsm_check.specs.declared.finding.Finding.TheVariants.{Refused}
use Rattle.lsm_check.specs.declared.report.Report.{Report}

-- how many data blocks tables have
abbrev pub data_blocks_in : List Table → ℕ
data_blocks_in [] = 0
data_blocks_in (t ∷ rest) = length t.outline.edges + data_blocks_in rest

-- at least `least` reads were made, and at most `most`
pub record ReadsBetween (least most : ℕ) (old new : Calls) : Type 0 where
  pub count : ℕ
  pub low : least ≤ count
  pub high : count ≤ most
  pub made : new.reads ≡ more count old.reads

-- All that a manifest within the limits names was read: each sector of the log regions and each data block of the tables; and
-- these are its numbers.
pub record IsReadWhole (size : ℕ) (old new : Calls) (report : Report) : Type 0 where
  pub log_sectors : ℕ
  pub manifest : Contents
  pub geometry : IsGeometry size log_sectors
  pub fits : IsManifest manifest
  pub generation : report.generation ≡ manifest.generation
  pub tables : report.tables ≡ length manifest.tables
  pub free_blocks : report.free_blocks ≡ blocks_in_none (data_blocks_of size log_sectors) manifest.tables
  pub reads : ReadsBetween (3 * log_sectors + 8 * all_data manifest.tables) 1118274 old new

-- each sector of the log regions was read
pub record AreRegionsRead (size : ℕ) (old new : Calls) : Type 0 where
  pub log_sectors : ℕ
  pub geometry : IsGeometry size log_sectors
  pub reads : ReadsBetween (3 * log_sectors) 1118274 old new

-- what was read at least, by what a check answered: for a yes everything, and the regions before a table is found wrong
abbrev pub IsReadFor : ℕ → Calls → Calls → Result Report Finding → Type 0
IsReadFor size old new (Ok report) = IsReadWhole size old new report
IsReadFor size old new (Err (Refused refusal)) = Unit {0}
IsReadFor size old new (Err other) = AreRegionsRead size old new
