-- An open log, and what its region holds.
use Rattle.std.specs.Prelude.{◌≡◌, ◌<◌, ◌≤◌, ◌^◌, ℕ, ◌+◌, ◌==◌, nat_lt, Bool, true, false, List, [], ◌++◌, length, take, drop, All, sum_by, Option, Some, None}
use Rattle.lsm_codec.specs.LogSectors.{Part, part_of}
use Rattle.lsm_codec.specs.BatchText.{IsBatch, sectors_of}
use Rattle.lsm_codec.specs.Map.{Operation}
use Rattle.lsm_device.specs.Disk.{Disk, Write}
use Rattle.lsm_device.specs.Areas.{area, disk_in}
use Rattle.lsm_device.specs.Runs.{run_at, grown}
use Rattle.lsm_log.specs.declared.log.Log.{Log}
use Rattle.lsm_log.specs.Batches.{all_sectors}
use Rattle.lsm_log.specs.Replay.{replay}

-- whether there is a part, and of this epoch
abbrev pub has_epoch : ℕ → Option Part → Bool
has_epoch epoch None = false
has_epoch epoch (Some p) = p.epoch == epoch

-- whether a sector is one of this epoch's
abbrev pub is_of : ℕ → List ℕ → Bool
is_of epoch sector = has_epoch epoch (part_of sector)

-- none of these sectors is of the epoch
abbrev pub HasNone : ℕ → List (List ℕ) → Type 0
HasNone epoch sectors = All (λ s. is_of epoch s ≡ false) sectors

-- whether there is a part, and of an epoch above the generation
abbrev pub has_epoch_above : ℕ → Option Part → Bool
has_epoch_above generation None = false
has_epoch_above generation (Some p) = nat_lt generation p.epoch

-- whether a sector is one of an epoch above the generation
abbrev pub is_above : ℕ → List ℕ → Bool
is_above generation sector = has_epoch_above generation (part_of sector)

-- none of these sectors is of an epoch above the generation
abbrev pub HasNoneAbove : ℕ → List (List ℕ) → Type 0
HasNoneAbove generation sectors = All (λ s. is_above generation s ≡ false) sectors

-- in an area no durable sector and no pending write is of an epoch above the generation
pub record NoneAboveIn (generation from count : ℕ) (d : Disk) : Type 0 where
  pub stands : HasNoneAbove generation (area from count d.stands)
  pub pends : All (λ (w : Write). is_above generation w.bytes ≡ false) (disk_in from count d).pending

-- numbers that an epoch's batches may have
pub record AreNumbers (epoch first count : ℕ) : Type 0 where
  pub epoch_low : 1 ≤ epoch
  pub epoch_high : epoch ≤ 2 ^ 63
  pub first_low : 1 ≤ first
  pub last_high : first + count ≤ 2 ^ 63 + 1

-- A region, seen as a disk of its own: these batches are durable, with no sector of the epoch after them, and right after
-- them these sectors pend.
pub record Holds (epoch first : ℕ) (synced : List (List Operation)) (pending : List (List ℕ)) (d : Disk) : Type 0 where
  pub front : take (length (all_sectors epoch first synced)) d.stands ≡ all_sectors epoch first synced
  pub behind : HasNone epoch (drop (length (all_sectors epoch first synced)) d.stands)
  pub pends : d.pending ≡ run_at (length (all_sectors epoch first synced)) pending
  pub room : length (all_sectors epoch first synced) + length pending ≤ length d.stands

-- The log goes with the disk: nothing but its batches was written to the region since it was opened, some of them
-- stand, and the others pend.
pub record IsOpen (log : Log) (d : Disk) : Type 0 where
  pub synced : List (List Operation)
  pub unsynced : List (List Operation)
  pub batches : All IsBatch (synced ++ unsynced)
  pub numbers : AreNumbers log.epoch log.first (length synced + length unsynced)
  pub holds : Holds log.epoch log.first synced (all_sectors log.epoch (log.first + length synced) unsynced) (disk_in log.start log.sectors d)
  pub within : log.start + log.sectors ≤ length d.stands
  pub next : log.next ≡ log.first + (length synced + length unsynced)
  pub used : log.used ≡ sum_by sectors_of (synced ++ unsynced)

-- what a log may be opened on: nothing pends in the region, and no durable sector there is of the epoch
pub record IsFree (start sectors epoch : ℕ) (d : Disk) : Type 0 where
  pub none : HasNone epoch (area start sectors d.stands)
  pub settled : (disk_in start sectors d).pending ≡ []
  pub within : start + sectors ≤ length d.stands

-- the batches in a log's region of an image
abbrev pub batches_in : Log → List (List ℕ) → List (List Operation)
batches_in log image = replay log.epoch log.first (area log.start log.sectors image)

-- the log after one batch more
pub record TakesBatch (batch : List Operation) (old new : Log) : Type 0 where
  pub start : new.start ≡ old.start
  pub sectors : new.sectors ≡ old.sectors
  pub epoch : new.epoch ≡ old.epoch
  pub first : new.first ≡ old.first
  pub next : new.next ≡ old.next + 1
  pub used : new.used ≡ old.used + sectors_of batch

-- a write to the log's region of a sector of its epoch
pub record IsOfLog (log : Log) (w : Write) : Type 0 where
  pub low : log.start ≤ w.at
  pub high : w.at < log.start + log.sectors
  pub epoch : is_of log.epoch w.bytes ≡ true

-- the new disk has, besides what pended, only such writes
abbrev pub IsGrownBy : Log → Disk → Disk → Type 0
IsGrownBy log old new = (ws : List Write) × All (IsOfLog log) ws × (new ≡ grown ws old)
