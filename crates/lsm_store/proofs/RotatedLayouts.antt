-- The layout after a rotation is within the limits again, whatever the device holds.
use Rattle.std.proofs.Common.{◌≡◌, ℕ, ◌+◌, ◌≤◌, List, [], ◌∷◌, ◌++◌, length, Some, None, sym, ◌∙◌, ap, subst, refl, arith, All}
use Rattle.std.specs.Prelude.{Option}
use Rattle.std.proofs.lemmas.List.Elements.{All-nil, All-cons}
use Rattle.lsm_codec.specs.declared.log_record.LogRecord.{LogRecord}
use Rattle.lsm_codec.specs.Manifests.{Contents, IsLogRecord, LogsAgree, BeginsAfter, IsManifest}
use Rattle.lsm_levels.specs.Levels.{Levels}
use Rattle.lsm_root.specs.CrashState.{last_number}
use Rattle.lsm_open.specs.Layout.{Layout, record_of, open_records}
use Rattle.lsm_open.specs.Placements.{contents_for}
use Rattle.lsm_open.specs.Recovering.{placed_in}
use Rattle.lsm_open.specs.Reopening.{least_free, new_records, HasCome}
use Rattle.lsm_open.specs.Switching.{IsInLeastFree}
use Rattle.lsm_open.specs.ToldTables.{records_of}
use Rattle.lsm_open.specs.declared.regions.OpenRegion.{OpenRegion}
use Rattle.lsm_open.proofs.NextManifests.{least_low, next_fits}
use Rattle.lsm_store.specs.Memory.{IsLogIn, IsOpenIn, LieWithin}

-- the layout after a rotation, where no region was closed: the open log's is, if one was open, and a new log is open
abbrev pub rotated_layout : Layout → OpenRegion → Layout
rotated_layout l o = record l { generation = l.generation + 1; closed = open_records l.open_region; open_region = Some o }

-- the new log lies in its region, and its next batch is the next
pub rotated_log : (log_sectors generation count : ℕ) (closed : List LogRecord) (o : OpenRegion) → IsInLeastFree log_sectors generation count closed (Some o) → IsLogIn log_sectors count o
rotated_log log_sectors generation count closed o new = record {
  region = least_low closed o.region (sym new.least);
  start = new.new_log.start;
  sectors = new.new_log.sectors;
  next = new.new_log.next ∙ new.new_log.first;
  low = omega (arith, new.new_log.next);
  begun = λ some. absurd (omega (arith, some, new.new_log.used));
}

module _ (size count : ℕ) (l : Layout) (levels : Levels) (o : OpenRegion) (within : LieWithin size l levels) (none_closed : l.closed ≡ []) (opened : IsOpenIn l.log_sectors count l.open_region)
    (some : (x : OpenRegion) → l.open_region ≡ Some x → 1 ≤ x.log.used) (tabled : l.open_region ≡ None → l.base ≡ count) (high : count ≤ last_number) (generation : l.generation + 1 ≤ last_number)
    (new : IsInLeastFree l.log_sectors (l.generation + 1) count (open_records l.open_region) (Some o)) where
  -- what the manifest says before
  abbrev before : Contents
  before = contents_for (placed_in l levels (records_of levels))

  each_open : All (IsLogRecord l.generation) (open_records l.open_region)
  each_open = subst (λ (logs : List LogRecord). All (IsLogRecord l.generation) (logs ++ open_records l.open_region)) none_closed within.manifest.logs.each

  begins_open : BeginsAfter l.base (open_records l.open_region)
  begins_open = subst (λ (logs : List LogRecord). BeginsAfter l.base (logs ++ open_records l.open_region)) none_closed within.manifest.logs.begins

  -- how far a replay of the regions would have come
  come_by : (x : Option OpenRegion) → IsOpenIn l.log_sectors count x → ((y : OpenRegion) → x ≡ Some y → 1 ≤ y.log.used) → (x ≡ None → l.base ≡ count)
      → All (IsLogRecord l.generation) (open_records x) → BeginsAfter l.base (open_records x) → HasCome before count (open_records x) []
  come_by None is used base each begins = record {
    count_high = high;
    each = each;
    agree = tt;
    few = omega arith;
    before = All-nil (λ (r : LogRecord). r.first_batch ≤ count);
    begins = sym (base refl);
  }
  come_by (Some x) is used base each begins = record {
    count_high = high;
    each = each;
    agree = (All-nil (LogsAgree (record_of x)), tt);
    few = omega arith;
    before = All-cons (λ (r : LogRecord). r.first_batch ≤ count) (record_of x) [] (omega (arith, is.begun (used x refl), is.next)) (All-nil (λ (r : LogRecord). r.first_batch ≤ count));
    begins = begins;
  }

  -- the new log is the one that an opening would open
  same_log : new_records (least_free (open_records l.open_region)) (l.generation + 1) (count + 1) ≡ record_of o ∷ []
  same_log =
      ap (λ (r : Option ℕ). new_records r (l.generation + 1) (count + 1)) (sym new.least)
      ∙ ap (λ (k : ℕ). new_records (Some o.region) k (count + 1)) (sym new.new_log.epoch)
      ∙ ap (λ (k : ℕ). new_records (Some o.region) o.log.epoch k) (sym new.new_log.first)

  next_is : IsManifest (contents_for (placed_in (rotated_layout l o) levels (records_of levels)))
  next_is = subst IsManifest (ap made same_log) (next_fits before count (open_records l.open_region) within.manifest (come_by l.open_region opened some tabled each_open begins_open) (λ e. omega (arith, e, generation)))
    where
      made : List LogRecord → Contents
      made logs = record { generation = l.generation + 1; base = l.base; next_table = l.next_table; runs = length levels.runs; logs = open_records l.open_region ++ logs; tables = records_of levels }

  -- what the next manifest says is within the limits, and all else stays where it was
  pub rotated_within : LieWithin size (rotated_layout l o) levels
  rotated_within = record {
    geometry = within.geometry;
    manifest = next_is;
    inside = within.inside;
    regions = within.regions;
    tables = within.tables;
    few = within.few;
  }
