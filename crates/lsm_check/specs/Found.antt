-- What a check of sectors finds, and what it finds first.
use Rattle.std.specs.Prelude.{◌≡◌, ◌⊎◌, ℕ, ◌*◌, List, map, Contains, Some, None, Result, Ok, Err}
use Rattle.lsm_codec.specs.Manifests.{Contents}
use Rattle.lsm_codec.specs.declared.table_record.TableRecord.{TableRecord}
use Rattle.lsm_device.specs.Areas.{area}
use Rattle.lsm_device.specs.declared.refusal.Refusal.{Refusal}
use Rattle.lsm_device.specs.declared.refusal.Refusal.TheVariants.{NoMemory, Io, Exhausted, BadManifest, BadTable}
use Rattle.lsm_levels.specs.Tables.{Table}
use Rattle.lsm_log.specs.Opened.{HasNoneAbove}
use Rattle.lsm_open.specs.LogRegions.{first_region}
use Rattle.lsm_open.specs.RefusedOpenings.{opening_refusal}
use Rattle.lsm_root.specs.Roots.{Stands, root_of}
use Rattle.lsm_check.specs.Images.{IsNoMemoryOrIo, IsNoVerdict}
use Rattle.lsm_check.specs.declared.finding.Finding.{Finding}
use Rattle.lsm_check.specs.declared.finding.Finding.TheVariants.{Refused, Entries, Order, Filter, Versions}
use Rattle.lsm_check.specs.declared.report.Report.{Report}

-- just this is found, if there is a verdict
abbrev pub Finds : Finding → Result Report Finding → Type 0
Finds finding (Ok report) = ⊥
Finds finding (Err found) = (found ≡ finding) ⊎ IsNoVerdict found

-- What an opening is refused with for what the sectors hold is found, if there is a verdict. That there is no next generation
-- is nothing wrong.
abbrev pub FindsRefusal : List (List ℕ) → Result Report Finding → Type 0
FindsRefusal sectors result = (refusal : Refusal) → opening_refusal sectors ≡ Some refusal → (refusal ≡ Exhausted → ⊥) → Finds (Refused refusal) result

-- an opening isn't refused for what the sectors hold, but perhaps since there is no next generation
abbrev pub IsNotRefused : List (List ℕ) → Type 0
IsNotRefused sectors = (opening_refusal sectors ≡ None) ⊎ (opening_refusal sectors ≡ Some Exhausted)

-- A manifest stands, and a sector of its log regions is of a later generation.
pub record HasLaterSector (sectors : List (List ℕ)) : Type 0 where
  pub log_sectors : ℕ
  pub manifest : Contents
  pub root : root_of sectors ≡ Stands log_sectors manifest
  pub later : ¬ HasNoneAbove manifest.generation (area first_region (3 * log_sectors) sectors)

-- Then this is found, if there is a verdict.
abbrev pub FindsLaterSector : List (List ℕ) → Result Report Finding → Type 0
FindsLaterSector sectors result = IsNotRefused sectors → HasLaterSector sectors → Finds (Refused BadManifest) result

-- what is read before the tables are gone over is refused so
abbrev pub IsReadRefusal : List (List ℕ) → Refusal → Type 0
IsReadRefusal sectors e = (opening_refusal sectors ≡ Some e) ⊎ (IsNoMemoryOrIo e ⊎ ((e ≡ BadManifest) × IsNotRefused sectors × HasLaterSector sectors))

-- ---- findings of tables

-- a reading of a table's data blocks is refused so
abbrev pub IsBlockRefusal : Refusal → Type 0
IsBlockRefusal NoMemory = Unit {0}
IsBlockRefusal Io = Unit {0}
IsBlockRefusal BadTable = Unit {0}
IsBlockRefusal other = ⊥

-- this is found of the table of a number
abbrev pub IsOfTable : ℕ → Finding → Type 0
IsOfTable number (Refused refusal) = IsBlockRefusal refusal
IsOfTable number (Entries told) = told ≡ number
IsOfTable number (Order told) = told ≡ number
IsOfTable number (Filter told) = told ≡ number
IsOfTable number (Versions told) = told ≡ number

-- and of one of the tables of these numbers
abbrev pub IsOfTables : List ℕ → Finding → Type 0
IsOfTables numbers (Refused refusal) = IsBlockRefusal refusal
IsOfTables numbers (Entries told) = Contains numbers told
IsOfTables numbers (Order told) = Contains numbers told
IsOfTables numbers (Filter told) = Contains numbers told
IsOfTables numbers (Versions told) = Contains numbers told

-- the numbers of tables, and of those of records
abbrev pub numbers_in : List Table → List ℕ
numbers_in tables = map (λ t. t.number) tables

abbrev pub numbers_of : List TableRecord → List ℕ
numbers_of tables = map (λ t. t.number) tables

-- This is found of a table that the manifest names: a manifest stands, an opening isn't refused, and no log sector is of a later
-- generation.
pub record IsTableFinding (sectors : List (List ℕ)) (finding : Finding) : Type 0 where
  pub log_sectors : ℕ
  pub manifest : Contents
  pub root : root_of sectors ≡ Stands log_sectors manifest
  pub opens : IsNotRefused sectors
  pub none_later : ¬ HasLaterSector sectors
  pub named : IsOfTables (numbers_of manifest.tables) finding

-- what may be found of sectors: a refusal of what is read before the tables are gone over, or what is found of one of them
abbrev pub IsFoundIn : List (List ℕ) → Finding → Type 0
IsFoundIn sectors finding = ((refusal : Refusal) × (finding ≡ Refused refusal) × IsReadRefusal sectors refusal) ⊎ IsTableFinding sectors finding
