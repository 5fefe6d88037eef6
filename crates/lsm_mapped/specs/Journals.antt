-- What contracts see of a journal, over the bytes that it is given.
use Rattle.std.specs.Prelude.{◌≤◌, ℕ, List, length, take}
use Rattle.lsm_mapped.specs.Laid.{Laid}
use Rattle.lsm_mapped.specs.Records.{Record, records_of}
use Rattle.lsm_mapped.specs.declared.journal.Journal.{Journal}

-- its records
abbrev pub records_in : Journal → List ℕ → List Record
records_in j bytes = records_of (take j.used bytes)

-- It fills the first of these bytes, with the text of its records.
pub record Fills (j : Journal) (bytes : List ℕ) : Type 0 where
  pub within : j.used ≤ length bytes
  pub laid : Laid (take j.used bytes) j.head j.first j.count j.wrote
