-- What a check tells of a device.
use Rattle.std.specs.Prelude.{◌≡◌, ℕ, not, Bool, true, List, length, Result, Ok, Err}
use Rattle.std.specs.List.{list_any}
use Rattle.lsm_codec.specs.Geometry.{data_blocks_of}
use Rattle.lsm_codec.specs.Manifests.{Contents}
use Rattle.lsm_codec.specs.declared.table_record.TableRecord.{TableRecord}
use Rattle.lsm_device.specs.Refusals.{is_no_fault}
use Rattle.lsm_device.specs.declared.refusal.Refusal.{Refusal}
use Rattle.lsm_device.specs.declared.refusal.Refusal.TheVariants.{NoMemory, Io, NotAStore, BadSuper, BadManifest, BadTable, BadGeometry}
use Rattle.lsm_extent.specs.Area.{covers, count_below}
use Rattle.lsm_open.specs.Image.{count_in, HoldNamed}
use Rattle.lsm_open.specs.Tables.{table_versions}
use Rattle.lsm_open.specs.ToldTables.{record_extent}
use Rattle.lsm_root.specs.Roots.{Stands, root_of}
use Rattle.lsm_check.specs.declared.finding.Finding.{Finding}
use Rattle.lsm_check.specs.declared.finding.Finding.TheVariants.{Refused}
use Rattle.lsm_check.specs.declared.report.Report.{Report}

-- how many blocks of a data area are in none of these tables
abbrev pub blocks_in_none : ℕ → List TableRecord → ℕ
blocks_in_none blocks tables = count_below (λ block. not (list_any (λ t. covers block (record_extent t)) tables)) blocks

-- The sectors of a device of this size are the image of a store, and these are its numbers: a manifest stands there, of either
-- version of the format, and they hold what it names.
pub record IsImage (size : ℕ) (sectors : List (List ℕ)) (report : Report) : Type 0 where
  pub log_sectors : ℕ
  pub manifest : Contents
  pub root : root_of sectors ≡ Stands log_sectors manifest
  pub holds : HoldNamed log_sectors manifest sectors
  pub generation : report.generation ≡ manifest.generation
  pub batches : report.batches ≡ count_in log_sectors sectors manifest
  pub tables : report.tables ≡ length manifest.tables
  pub entries : report.entries ≡ length (table_versions log_sectors sectors manifest.tables)
  pub free_blocks : report.free_blocks ≡ blocks_in_none (data_blocks_of size log_sectors) manifest.tables

-- a finding that says nothing of what the device holds: there was no memory, or a read faulted
abbrev pub IsNoMemoryOrIo : Refusal → Type 0
IsNoMemoryOrIo NoMemory = Unit {0}
IsNoMemoryOrIo Io = Unit {0}
IsNoMemoryOrIo other = ⊥

abbrev pub IsNoVerdict : Finding → Type 0
IsNoVerdict (Refused refusal) = IsNoMemoryOrIo refusal
IsNoVerdict other = ⊥

-- the refusals that a check may end with, of any device
abbrev pub IsCheckRefusal : Refusal → Type 0
IsCheckRefusal NoMemory = Unit {0}
IsCheckRefusal Io = Unit {0}
IsCheckRefusal NotAStore = Unit {0}
IsCheckRefusal BadSuper = Unit {0}
IsCheckRefusal BadGeometry = Unit {0}
IsCheckRefusal BadManifest = Unit {0}
IsCheckRefusal BadTable = Unit {0}
IsCheckRefusal other = ⊥

abbrev pub IsCheckFinding : Finding → Type 0
IsCheckFinding (Refused refusal) = IsCheckRefusal refusal
IsCheckFinding other = Unit {0}

-- whether a finding tells of no read that faulted
abbrev pub finds_no_fault : Finding → Bool
finds_no_fault (Refused refusal) = is_no_fault refusal
finds_no_fault other = true

-- whether no read of a check faulted
abbrev pub is_faultless : {X : Type 0} → Result X Finding → Bool
is_faultless (Ok x) = true
is_faultless (Err finding) = finds_no_fault finding
