-- The disks that a mapping has had, once the records of a journal are made on it.
use Rattle.std.specs.Prelude.{◌≡◌, ◌≤◌, ℕ, ◌+◌, ◌*◌, true, List, [], ◌∷◌, ◌++◌, length, take, replicate, All, None}
use Rattle.lsm_device.specs.Calls.{no_calls}
use Rattle.lsm_device.specs.Disk.{Disk, appended, seen, synced}
use Rattle.lsm_device.specs.History.{IsHistory, present}
use Rattle.lsm_device.specs.Medium.{Ended, Lasting, Medium}
use Rattle.lsm_device.specs.Runs.{pieces}
use Rattle.lsm_mapped.specs.Records.{IsWhole, Record, text_of}

-- n sectors of a mapping; where it ends before them, zeros follow
unfoldable pub mapped_sectors : ℕ → List ℕ → List (List ℕ)
mapped_sectors n image = pieces n (image ++ replicate (512 * n) 0)

-- The disks that a device of n sectors has had, of which a mapping shows the last: its reads see what was written, though a
-- crash may still lose what was not synced. Each mapping shows one, on which nothing pends.
pub record IsPast (n : ℕ) (image : List ℕ) (past : List Disk) : Type 0 where
  pub disks : IsHistory n past
  pub shown : seen (present past) ≡ mapped_sectors n image

-- sectors are written one after the other, from a place on
unfoldable pub after_sectors : ℕ → List (List ℕ) → List Disk → List Disk
after_sectors at [] past = past
after_sectors at (bytes ∷ rest) past = after_sectors (at + 1) rest (appended (record { at = at; bytes = bytes }) (present past) ∷ past)

-- a record is made: its sectors are written, or all that pends is synced
unfoldable pub after_record : ℕ → List (List ℕ) → List Disk → List Disk
after_record first [] past = synced (present past) ∷ past
after_record first (bytes ∷ rest) past = after_sectors first (bytes ∷ rest) past

-- records are, one after the other
unfoldable pub after_records : List Record → List Disk → List Disk
after_records [] past = past
after_records (r ∷ rs) past = after_records rs (after_record r.first r.sectors past)

-- a record writes only sectors of a device of n sectors
abbrev pub IsWithin : ℕ → Record → Type 0
IsWithin n r = r.first + length r.sectors ≤ n

-- The first `used` bytes of a journal are the text of these records, of numbers of 32 bits and whole sectors, within n sectors.
pub record IsFilledWith (n used : ℕ) (journal : List ℕ) (records : List Record) : Type 0 where
  pub text : take used journal ≡ text_of records
  pub size : used ≡ length (text_of records)
  pub whole : All IsWhole records
  pub within : All (IsWithin n) records

-- the disks before a call, as those of a life that ended
abbrev pub before : List Disk → Ended
before past = record { fuse_set = None; failure_set = None; times_set = 0; calls = no_calls; history = past }

-- Of a device over a mapping: the disks that it had before. The loan of its journal has a number, kept in the field in which a device
-- in memory counts its fuses.
abbrev pub lasting_of : ℕ → List Disk → Lasting
lasting_of loan past = record { tells = true; fuse_set = None; failure_set = None; times_set = loan; ended = before past ∷ [] }

-- a device over a mapping, on which nothing was called since it was lent
abbrev pub mapped : ℕ → List Disk → ℕ → Medium
mapped n past loan = record { size = n; lasting = lasting_of loan past; calls = no_calls; history = past }
