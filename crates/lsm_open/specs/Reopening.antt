-- What an opening makes of a manifest, and of the batches that its regions hold.
use Rattle.std.specs.Prelude.{◌≡◌, ℕ, ◌+◌, ◌≤◌, ◌==◌, not, Bool, List, [], ◌∷◌, ◌++◌, length, Option, Some, None, option_map, if◌then◌else◌}
use Rattle.std.specs.List.{All, AllByRecursion, list_all}
use Rattle.lsm_codec.specs.declared.log_record.LogRecord.{LogRecord}
use Rattle.lsm_codec.specs.Pairs.{Pairwise}
use Rattle.lsm_codec.specs.Manifests.{Contents, IsLogRecord, LogsAgree}
use Rattle.lsm_codec.specs.Map.{Operation}
use Rattle.lsm_codec.specs.Versions.{IsEntry}
use Rattle.lsm_mem.specs.EntryOrder.{with_batches}
use Rattle.lsm_mem.specs.Versions.{NumberedBelow}
use Rattle.lsm_root.specs.CrashState.{last_number}
use Rattle.lsm_open.specs.LogRegions.{region_start, batches_at, all_batches, follow_on}
use Rattle.lsm_open.specs.Layout.{Layout}
use Rattle.lsm_open.specs.declared.regions.OpenRegion.{OpenRegion}
use Rattle.lsm_open.specs.declared.replayed.Replayed.{Replayed}

-- a log record before others, where its region gave batches
abbrev pub kept_before : List (List Operation) → LogRecord → List LogRecord → List LogRecord
kept_before [] r rest = rest
kept_before (batch ∷ more) r rest = r ∷ rest

-- the log records of the regions that hold batches
abbrev pub kept_records : ℕ → List (List ℕ) → List LogRecord → List LogRecord
kept_records log_sectors sectors [] = []
kept_records log_sectors sectors (r ∷ rest) = kept_before (batches_at log_sectors sectors r) r (kept_records log_sectors sectors rest)

-- no log record is of this region
abbrev pub is_free : ℕ → List LogRecord → Bool
is_free region logs = list_all (λ r. not (r.region == region)) logs

-- the least region that no log record is of
abbrev pub least_free : List LogRecord → Option ℕ
least_free logs = if is_free 0 logs then Some 0 else (if is_free 1 logs then Some 1 else (if is_free 2 logs then Some 2 else None))

-- the log record of a new log in a region, if one is free
abbrev pub new_records : Option ℕ → ℕ → ℕ → List LogRecord
new_records (Some region) epoch first = record { region = region; epoch = epoch; first_batch = first } ∷ []
new_records None epoch first = []

-- the manifest of the next generation: the same tables, and after the kept regions a new log, in the least free one
abbrev pub next_contents : Contents → List LogRecord → ℕ → Contents
next_contents m closed count = record { generation = m.generation + 1; base = m.base; next_table = m.next_table; runs = m.runs; logs = closed ++ new_records (least_free closed) (m.generation + 1) (count + 1); tables = m.tables }

-- a log with no batch yet, in its region, of this generation and at `count` batches
pub record IsNewLog (log_sectors generation count : ℕ) (o : OpenRegion) : Type 0 where
  pub start : o.log.start ≡ region_start log_sectors o.region
  pub sectors : o.log.sectors ≡ log_sectors
  pub epoch : o.log.epoch ≡ generation
  pub first : o.log.first ≡ count + 1
  pub next : o.log.next ≡ o.log.first
  pub used : o.log.used ≡ 0

abbrev pub IsNewIfOpen : ℕ → ℕ → ℕ → Option OpenRegion → Type 0
IsNewIfOpen log_sectors generation count (Some o) = IsNewLog log_sectors generation count o
IsNewIfOpen log_sectors generation count None = Unit {0}

-- the layout in the generation after the manifest's, at `count` batches: a new log is open in the least free region
pub record IsNextLayout (log_sectors : ℕ) (m : Contents) (count : ℕ) (l : Layout) : Type 0 where
  pub log_size : l.log_sectors ≡ log_sectors
  pub generation : l.generation ≡ m.generation + 1
  pub base : l.base ≡ m.base
  pub next_table : l.next_table ≡ m.next_table
  pub least : option_map (λ o. o.region) l.open_region ≡ least_free l.closed
  pub new_log : IsNewIfOpen log_sectors (m.generation + 1) count l.open_region

-- the first kept log begins after the base, and where none is kept no batch is after the base
abbrev pub BeginsAt : ℕ → ℕ → List LogRecord → Type 0
BeginsAt base count [] = count ≡ base
BeginsAt base count (r ∷ rest) = r.first_batch ≡ base + 1

-- How far a replay of a manifest's regions has come, whatever they hold: these log records are kept, with batches up
-- to the count, and these are yet to come.
pub record HasCome (m : Contents) (count : ℕ) (closed rest : List LogRecord) : Type 0 where
  pub count_high : count ≤ last_number
  pub each : All (IsLogRecord m.generation) (closed ++ rest)
  pub agree : Pairwise LogsAgree (closed ++ rest)
  pub few : length closed + length rest ≤ 3
  pub before : All (λ r. r.first_batch ≤ count) closed
  pub begins : BeginsAt m.base count closed

-- What more is remembered after a region's log record was replayed, which gave these batches.
pub record HasReplayed {A : Type 0} (r : LogRecord) (batches : List (List Operation)) (old new : Replayed A) : Type 0 where
  pub first : r.first_batch ≡ old.count + 1
  pub closed : new.closed.items ≡ old.closed.items ++ kept_before batches r []
  pub count : new.count ≡ old.count + length batches
  pub count_high : new.count ≤ last_number
  pub versions : new.mem ≡ with_batches old.count batches old.mem
  pub numbered : NumberedBelow (new.count + 1) new.mem
  pub entries : AllByRecursion IsEntry old.mem → AllByRecursion IsEntry new.mem

-- How far a replay of a manifest's regions has come by what sectors hold: it goes on from here as it began.
pub record GoesOn {A : Type 0} (log_sectors : ℕ) (sectors : List (List ℕ)) (m : Contents) (replayed : Replayed A) (rest : List LogRecord) : Type 0 where
  pub kept : kept_records log_sectors sectors m.logs ≡ replayed.closed.items ++ kept_records log_sectors sectors rest
  pub counts : m.base + length (all_batches log_sectors sectors m.logs) ≡ replayed.count + length (all_batches log_sectors sectors rest)
  pub versions : with_batches m.base (all_batches log_sectors sectors m.logs) [] ≡ with_batches replayed.count (all_batches log_sectors sectors rest) replayed.mem
  pub follows : follow_on log_sectors sectors (m.base + 1) m.logs ≡ follow_on log_sectors sectors (replayed.count + 1) rest
