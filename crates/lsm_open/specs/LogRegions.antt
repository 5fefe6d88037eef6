-- What the log regions of a device hold.
use Rattle.std.specs.Prelude.{ℕ, ◌+◌, ◌*◌, ◌==◌, ◌&&◌, Bool, true, List, [], ◌∷◌, ◌++◌, length}
use Rattle.lsm_codec.specs.declared.log_record.LogRecord.{LogRecord}
use Rattle.lsm_codec.specs.Map.{Operation}
use Rattle.lsm_device.specs.Areas.{area}
use Rattle.lsm_log.specs.Replay.{replay}

-- the first sector of the log regions, which lie one after the other
abbrev pub first_region : ℕ
first_region = 130

-- the first sector of a region
abbrev pub region_start : ℕ → ℕ → ℕ
region_start log_sectors region = first_region + region * log_sectors

-- the batches in the region of a log record
abbrev pub batches_at : ℕ → List (List ℕ) → LogRecord → List (List Operation)
batches_at log_sectors sectors r = replay r.epoch r.first_batch (area (region_start log_sectors r.region) log_sectors sectors)

-- the batches in the regions of these log records, in order
abbrev pub all_batches : ℕ → List (List ℕ) → List LogRecord → List (List Operation)
all_batches log_sectors sectors [] = []
all_batches log_sectors sectors (r ∷ rest) = batches_at log_sectors sectors r ++ all_batches log_sectors sectors rest

-- each region's first batch comes next after those of the regions before it
abbrev pub follow_on : ℕ → List (List ℕ) → ℕ → List LogRecord → Bool
follow_on log_sectors sectors next [] = true
follow_on log_sectors sectors next (r ∷ rest) = (r.first_batch == next) && follow_on log_sectors sectors (next + length (batches_at log_sectors sectors r)) rest

abbrev pub one_if_some : List (List Operation) → ℕ
one_if_some [] = 0
one_if_some (batch ∷ rest) = 1

-- how many of the regions hold batches
abbrev pub regions_with_batches : ℕ → List (List ℕ) → List LogRecord → ℕ
regions_with_batches log_sectors sectors [] = 0
regions_with_batches log_sectors sectors (r ∷ rest) = one_if_some (batches_at log_sectors sectors r) + regions_with_batches log_sectors sectors rest
