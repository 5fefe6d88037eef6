-- Why a host's calls, one after another, are those of a store on one device.
use Rattle.std.specs.Prelude.{◌≡◌, ℕ, List, ◌++◌}
use Rattle.lsm_device.specs.Disk.{Disk, seen}
use Rattle.lsm_device.specs.History.{present}
use Rattle.lsm_mapped.specs.Disks.{IsPast, after_records, mapped_sectors}
use Rattle.lsm_mapped.specs.Records.{Record}
use Rattle.lsm_store.specs.Backing.{IsBacked, StoreView}
use Rattle.corwaphi_c.specs.Calls.{IsMoved, IsWritten, Loan, lent_to}

-- A mapping on which the journal of a call was made shows the disks that the call left: with them the next one may begin.
abbrev pub ShowsNext : Type 0
ShowsNext = (n : ℕ) (image next : List ℕ) (loan : Loan) (history : List Disk) → IsPast n image loan.past → IsWritten n loan history
    → seen (present history) ≡ mapped_sectors n next → IsPast n next history

-- A store that its device backs when a call ends, it backs when the next one begins with the disks that this one left.
abbrev pub BacksNext : Type 0
BacksNext = (left parked : StoreView) (name : ℕ) → IsMoved left parked → IsBacked left → IsBacked (lent_to left.device.history name parked)

-- A host that has made the first records of a journal has a disk that the device told: what comes later leaves it where it is.
abbrev pub PassesThrough : Type 0
PassesThrough = (made left : List Record) (past : List Disk) → (changes : List Disk) × (after_records (made ++ left) past ≡ changes ++ after_records made past)
