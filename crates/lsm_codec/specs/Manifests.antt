-- The manifest: what it says, its limits, and its text.
use Rattle.std.specs.Prelude.{◌≡◌, ◌≢◌, ℕ, ◌+◌, ◌≤◌, ◌<◌, ◌^◌, ◌==◌, ◌&&◌, not, nat_le, nat_lt, Bool, true, List, [], ◌∷◌, ◌++◌, length, Option}
use Rattle.std.specs.List.{All, flat_map, list_all}
use Rattle.std.specs.Int.{div_ceil}
use Rattle.byteorder.specs.Endian.{big_bytes}
use Rattle.lsm_codec.specs.Spelling.{in_sectors, is_within, if_spelled}
use Rattle.lsm_codec.specs.Pairs.{Pairwise}
use Rattle.lsm_codec.specs.Reading.{number_at, then_with, both, made, kept, times, front_of}
use Rattle.lsm_codec.specs.declared.log_record.LogRecord.{LogRecord}
use Rattle.lsm_codec.specs.declared.table_record.TableRecord.{TableRecord}
use Rattle.lsm_codec.specs.declared.superblock.FormatVersion.{FormatVersion}
use Rattle.lsm_codec.specs.TableRecords.{IsTableRecord, IsOfVersion, TablesAgree, HasRuns, is_table_record, is_of_version, is_agreeing_table, has_runs, table_record, table_record_at}

-- what a manifest says: every batch up to the base is in the tables, and those after it are in the regions of the log records
pub record Contents : Type 0 where
  pub generation : ℕ
  pub base : ℕ
  pub next_table : ℕ
  pub runs : ℕ
  pub logs : List LogRecord
  pub tables : List TableRecord

-- ---- limits

pub record IsLogRecord (generation : ℕ) (r : LogRecord) : Type 0 where
  pub region : r.region ≤ 2
  pub epoch_low : 1 ≤ r.epoch
  pub epoch_high : r.epoch ≤ generation
  pub first_high : r.first_batch ≤ 2 ^ 63 + 1

-- of two log records, the earlier and the later: other regions, and epoch and first batch rise
pub record LogsAgree (a b : LogRecord) : Type 0 where
  pub regions : a.region ≢ b.region
  pub epochs : a.epoch < b.epoch
  pub firsts : a.first_batch < b.first_batch

-- the first log begins after the base
abbrev pub BeginsAfter : ℕ → List LogRecord → Type 0
BeginsAfter base [] = Unit {0}
BeginsAfter base (r ∷ rs) = r.first_batch ≡ base + 1

pub record NumbersFit (c : Contents) : Type 0 where
  pub generation_low : 1 ≤ c.generation
  pub generation_high : c.generation ≤ 2 ^ 63
  pub base : c.base ≤ 2 ^ 63
  pub next_low : 1 ≤ c.next_table
  pub next_high : c.next_table ≤ 2 ^ 63 + 1
  pub runs : c.runs ≤ 12
  pub logs : length c.logs ≤ 3
  pub tables : length c.tables ≤ 1024

pub record LogsFit (c : Contents) : Type 0 where
  pub each : All (IsLogRecord c.generation) c.logs
  pub agree : Pairwise LogsAgree c.logs
  pub begins : BeginsAfter c.base c.logs

pub record TablesFit (c : Contents) : Type 0 where
  pub each : All (IsTableRecord c.next_table c.runs) c.tables
  pub agree : Pairwise TablesAgree c.tables
  pub runs : HasRuns c.runs c.tables

pub record IsManifest (c : Contents) : Type 0 where
  pub numbers : NumbersFit c
  pub logs : LogsFit c
  pub tables : TablesFit c

-- a manifest of this version of the format
pub record IsManifestOf (version : FormatVersion) (c : Contents) : Type 0 where
  pub fits : IsManifest c
  pub records : All (IsOfVersion version) c.tables

-- the same limits, as tests
abbrev pub is_each_two : {X : Type 0} → (X → X → Bool) → List X → Bool
is_each_two test [] = true
is_each_two test (x ∷ xs) = list_all (test x) xs && is_each_two test xs

abbrev pub is_log_record : ℕ → LogRecord → Bool
is_log_record generation r = nat_le r.region 2 && (is_within 1 generation r.epoch && nat_le r.first_batch (2 ^ 63 + 1))

abbrev pub is_agreeing : LogRecord → LogRecord → Bool
is_agreeing a b = not (a.region == b.region) && (nat_lt a.epoch b.epoch && nat_lt a.first_batch b.first_batch)

abbrev pub is_after : ℕ → List LogRecord → Bool
is_after base [] = true
is_after base (r ∷ rs) = r.first_batch == base + 1

abbrev pub is_numbered : Contents → Bool
is_numbered c = is_within 1 (2 ^ 63) c.generation && (nat_le c.base (2 ^ 63) && (is_within 1 (2 ^ 63 + 1) c.next_table && (nat_le c.runs 12 && (nat_le (length c.logs) 3 && nat_le (length c.tables) 1024))))

abbrev pub is_logged : Contents → Bool
is_logged c = list_all (is_log_record c.generation) c.logs && (is_each_two is_agreeing c.logs && is_after c.base c.logs)

abbrev pub is_tabled : Contents → Bool
is_tabled c = list_all (is_table_record c.next_table c.runs) c.tables && (is_each_two is_agreeing_table c.tables && has_runs c.runs c.tables)

abbrev pub is_manifest : Contents → Bool
is_manifest c = is_numbered c && (is_logged c && is_tabled c)

abbrev pub is_manifest_of : FormatVersion → Contents → Bool
is_manifest_of version c = is_manifest c && list_all (is_of_version version) c.tables

-- ---- text

abbrev pub log_record : LogRecord → List ℕ
log_record r = big_bytes 1 r.region ++ (big_bytes 8 r.epoch ++ big_bytes 8 r.first_batch)

-- `LSMM`, the numbers, and the counts of log records, level 0 runs and table records
abbrev pub manifest_header : Contents → List ℕ
manifest_header c = big_bytes 4 0x4c534d4d ++ (big_bytes 8 c.generation ++ (big_bytes 8 c.base ++ (big_bytes 8 c.next_table ++ (big_bytes 1 (length c.logs) ++ (big_bytes 1 c.runs ++ big_bytes 2 (length c.tables))))))

unfoldable pub manifest_text : Contents → List ℕ
manifest_text c = manifest_header c ++ (flat_map log_record c.logs ++ flat_map table_record c.tables)

-- the fewest sectors that hold a manifest
abbrev pub sector_count : Contents → ℕ
sector_count c = div_ceil (length (manifest_text c)) 512

-- the bytes of the sectors that spell a manifest
unfoldable pub manifest_bytes : Contents → List ℕ
manifest_bytes c = in_sectors (manifest_text c)

-- ---- reading

unfoldable pub log_record_at : List ℕ → Option (LogRecord × List ℕ)
log_record_at = made (λ t. record { region = t.0; epoch = t.1.0; first_batch = t.1.1 }) (both (number_at 1) (both (number_at 8) (number_at 8)))

-- one number only
abbrev pub only_number : ℕ → ℕ → List ℕ → Option (ℕ × List ℕ)
only_number n size = kept (λ m. m == n) (number_at size)

unfoldable pub header_at : List ℕ → Option ((ℕ × (ℕ × (ℕ × (ℕ × (ℕ × (ℕ × ℕ)))))) × List ℕ)
header_at = both (only_number 0x4c534d4d 4) (both (number_at 8) (both (number_at 8) (both (number_at 8) (both (number_at 1) (both (number_at 1) (number_at 2))))))

unfoldable pub manifest_at : FormatVersion → List ℕ → Option (Contents × List ℕ)
manifest_at version =
    made (λ t. record { generation = t.0.1.0; base = t.0.1.1.0; next_table = t.0.1.1.1.0; runs = t.0.1.1.1.1.1.0; logs = t.1.0; tables = t.1.1 })
    (then_with header_at (λ h. both (times h.1.1.1.1.0 log_record_at) (times h.1.1.1.1.1.1 (table_record_at version))))

-- the manifest that the bytes of sectors spell in this version, if they spell one
unfoldable pub manifest_of : FormatVersion → List ℕ → Option Contents
manifest_of version sectors = if_spelled (is_manifest_of version) manifest_bytes sectors (front_of (manifest_at version sectors))
