-- The states of a store, as a map that answers calls and outlives crashes.
use Rattle.std.specs.Prelude.{ℕ, ◌+◌, ◌-◌, ◌==◌, nat_le, Bool, true, false, is_some, List, Option, Some, None, find}
use Rattle.std.specs.FinMap as finite
use Rattle.lsm_codec.specs.Map.{Map, Operation}
use Rattle.lsm_codec.specs.BatchText.{sectors_of}
use Rattle.lsm_root.specs.CrashState.{CrashState}
use Rattle.lsm_machine.specs.RecoveryPoints.{RecoveryPoint, RecoveryPoints, batch_count, present_map}
use Rattle.lsm_machine.specs.declared.asked.At.{At}
use Rattle.lsm_machine.specs.declared.asked.At.TheVariants.{Now, Snap}

-- The open log: the number that its first batch has or will have, and the sectors used.
pub record OpenLog : Type 0 where
  pub first : ℕ
  pub used : ℕ

-- A live snapshot: its number, and the count of batches with the map after them, as they were when it was taken.
pub record LiveSnapshot : Type 0 where
  pub number : ℕ
  pub point : RecoveryPoint

pub record State : Type 0 where
  pub points : RecoveryPoints
  -- the sectors of a log region
  pub log_sectors : ℕ
  -- how many closed log regions hold batches that are in no table
  pub closed : ℕ
  pub open_log : Option OpenLog
  pub generation : ℕ
  -- the live snapshots, the oldest first
  pub snapshots : List LiveSnapshot
  -- the number of the next snapshot
  pub next_snapshot : ℕ
  -- none while it runs; else what the call that stopped it may have left besides the recovery points
  pub stopped : Option (List CrashState)

-- sealed versions wait for a flush exactly where closed regions hold batches that are in no table
abbrev pub are_waiting : State → Bool
are_waiting s = nat_le 1 s.closed

-- the live snapshot of a number
abbrev pub snapshot_of : State → ℕ → Option LiveSnapshot
snapshot_of s number = find (λ snapshot. snapshot.number == number) s.snapshots

-- whether a read may ask it: a snapshot has to be live
abbrev pub may_ask : State → At → Bool
may_ask s Now = true
may_ask s (Snap number) = is_some (snapshot_of s number)

abbrev pub map_of_snapshot : Option LiveSnapshot → Map
map_of_snapshot (Some snapshot) = snapshot.point.map
map_of_snapshot None = finite.empty

-- the map that a read asks
abbrev pub map_at : State → At → Map
map_at s Now = present_map s.points
map_at s (Snap number) = map_of_snapshot (snapshot_of s number)

abbrev pub count_of_snapshot : Option LiveSnapshot → ℕ
count_of_snapshot (Some snapshot) = snapshot.point.count
count_of_snapshot None = 0

-- the count of batches at which a read asks: the present one, or that at which its snapshot was taken
abbrev pub count_at : State → At → ℕ
count_at s Now = batch_count s.points
count_at s (Snap number) = count_of_snapshot (snapshot_of s number)

abbrev pub room_in : ℕ → Option OpenLog → ℕ
room_in log_sectors (Some log) = log_sectors - log.used
room_in log_sectors None = 0

-- the free sectors of the open log, none where no log is open
abbrev pub log_room : State → ℕ
log_room s = room_in s.log_sectors s.open_log

abbrev pub fits_in : ℕ → List Operation → Option OpenLog → Bool
fits_in log_sectors batch (Some log) = nat_le (log.used + sectors_of batch) log_sectors
fits_in log_sectors batch None = false

-- whether a log is open and a batch fits it
abbrev pub fits : State → List Operation → Bool
fits s batch = fits_in s.log_sectors batch s.open_log

-- whether a log has no batch yet
abbrev pub is_unused : Option OpenLog → Bool
is_unused (Some log) = log.used == 0
is_unused None = false
