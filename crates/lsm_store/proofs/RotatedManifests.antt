-- The next manifest of a rotation is one, and what it says of the next table may go on.
use Rattle.std.proofs.Common.{◌≡◌, ℕ, ◌+◌, ◌≤◌, List, [], ◌∷◌, ◌++◌, length, Some, None, refl, sym, ◌∙◌, ap, subst, arith, All}
use Rattle.std.specs.Prelude.{Option, IsSome}
use Rattle.std.proofs.lemmas.List.{length-append}
use Rattle.std.proofs.lemmas.List.Elements.{All-nil, All-cons, All-weaker}
use Rattle.lsm_codec.specs.declared.log_record.LogRecord.{LogRecord}
use Rattle.lsm_codec.specs.Manifests.{Contents, IsLogRecord, LogsAgree, IsManifest}
use Rattle.lsm_codec.specs.Map.{Operation}
use Rattle.lsm_codec.specs.TableRecords.{IsTableRecord}
use Rattle.lsm_device.specs.Disk.{Disk, seen, synced}
use Rattle.lsm_root.specs.CrashState.{last_number}
use Rattle.lsm_open.specs.Layout.{record_of, open_records, open_batches, IsClosed}
use Rattle.lsm_open.specs.LogRegions.{all_batches}
use Rattle.lsm_open.specs.Placements.{Placement, contents_for, closed_in, present_state}
use Rattle.lsm_open.specs.Reopening.{least_free, new_records, HasCome}
use Rattle.lsm_open.specs.Switching.{rotated_placement, IsInLeastFree}
use Rattle.lsm_open.specs.Writing.{PlacedTable}
use Rattle.lsm_open.specs.declared.regions.OpenRegion.{OpenRegion}
use Rattle.lsm_open.proofs.HeldRegions.{BeginsAfter}
use Rattle.lsm_open.proofs.NextManifests.{next_fits}
use Rattle.lsm_open.proofs.Writing.{installed_keeps}
use Rattle.lsm_root.specs.Installed.{IsInstalled}
use Rattle.lsm_root.specs.Roots.{Stands}
use Rattle.lsm_root.proofs.Standing.{standing}
use Rattle.lsm_machine.specs.RecoveryPoints.{batch_count}
use Rattle.lsm_machine.specs.State.{OpenLog, State}
use Rattle.lsm_store.specs.StoredTables.{IsStoredIn, IsStoredWithJobs, MayGoOn, with_next}
use Rattle.lsm_store.proofs.InstalledTables.{no_records, may_rotate, new_here}
use Rattle.lsm_store.proofs.LeftStates.{begins_at}

-- ---- another number for the next table

pub next_number : (c : Contents) (n : ℕ) → c.next_table ≤ n → n ≤ last_number + 1 → IsManifest c → IsManifest (record c { next_table = n })
next_number c n low high is = record {
  numbers = record {
    generation_low = is.numbers.generation_low;
    generation_high = is.numbers.generation_high;
    base = is.numbers.base;
    next_low = omega (arith, is.numbers.next_low, low);
    next_high = omega (arith, high);
    runs = is.numbers.runs;
    logs = is.numbers.logs;
    tables = is.numbers.tables;
  };
  logs = record { each = is.logs.each; agree = is.logs.agree; begins = is.logs.begins };
  tables = record {
    each = All-weaker (IsTableRecord c.next_table c.runs) (IsTableRecord n c.runs) (λ t fits. record { number = omega (arith, fits.number, low); level = fits.level; run = fits.run; sizes = fits.sizes; inside = fits.inside }) c.tables is.tables.each;
    agree = is.tables.agree;
    runs = is.tables.runs;
  };
}

pub goes_on_numbered : (q : Placement) (t : State) (d : Disk) (n : ℕ) → MayGoOn q t d → MayGoOn (with_next n q) t d
goes_on_numbered q t d n may =
    let held = may.next.held in
    let is = may.placed in
    record {
      next = record {
        held = record { inside = held.inside; closed = All-weaker (IsClosed q.logs (synced d)) (IsClosed (with_next n q).logs (synced d)) (λ r is. record { region = is.region; settled = is.settled; some = is.some; other = is.other }) q.logs.closed held.closed; follows = held.follows; opened = held.opened; above = held.above; tables = held.tables; still = held.still };
        left_is = may.next.left_is;
      };
      placed = record { log_sectors = is.log_sectors; generation = is.generation; closed = is.closed; open_log = is.open_log; running = is.running };
      synced = may.synced;
    }

pub rotate_keeps_numbered : (p : Placement) (placed : List PlacedTable) (s t : State) (o : OpenRegion) (n : ℕ) (start d : Disk) → IsStoredWithJobs p placed s start
    → IsInstalled start (Stands p.logs.log_sectors (contents_for (with_next n (rotated_placement p o)))) d → IsStoredIn (with_next n (rotated_placement p o)) t d → IsStoredWithJobs (with_next n (rotated_placement p o)) placed t d
rotate_keeps_numbered p placed s t o n start d keeps is stored = record {
  stored = stored;
  jobs = installed_keeps p (with_next n (rotated_placement p o)) [] [] placed start d refl keeps.jobs stored.carried is.settled is.stands.all keeps.jobs.tables keeps.jobs.clear;
}

-- ---- a rotation

module _ (p : Placement) (s : State) (d : Disk) (stored : IsStoredIn p s d) (none_closed : s.closed ≡ 0) (used : (log : OpenLog) → s.open_log ≡ Some log → 1 ≤ log.used) (generation : s.generation + 1 ≤ last_number) where
  abbrev before : List (List Operation)
  before = closed_in p d.stands

  none_before : before ≡ []
  none_before = ap (all_batches p.logs.log_sectors d.stands) (no_records p s d stored none_closed)

  fits : IsManifest (contents_for p)
  fits = (standing d.stands p.logs.log_sectors (contents_for p) stored.carried.root).fits

  each_open : All (IsLogRecord p.logs.generation) (open_records p.logs.open_region)
  each_open = subst (λ (logs : List LogRecord). All (IsLogRecord p.logs.generation) (logs ++ open_records p.logs.open_region)) (no_records p s d stored none_closed) fits.logs.each

  -- how far a replay of the regions would have come
  come_by : (x : Option OpenRegion) (count : ℕ) → count ≤ last_number → count ≡ p.logs.base + length (before ++ open_batches x (seen d)) → (IsSome x → 1 ≤ length (open_batches x (seen d)))
      → BeginsAfter p.logs.base before x → All (IsLogRecord p.logs.generation) (open_records x) → HasCome (contents_for p) count (open_records x) []
  come_by None count high is some begins each = record {
    count_high = high;
    each = each;
    agree = tt;
    few = omega arith;
    before = All-nil (λ (r : LogRecord). r.first_batch ≤ count);
    begins = omega (arith, is, length-append before [], ap length none_before);
  }
  come_by (Some x) count high is some begins each = record {
    count_high = high;
    each = each;
    agree = (All-nil (LogsAgree (record_of x)), tt);
    few = omega arith;
    before = All-cons (λ (r : LogRecord). r.first_batch ≤ count) (record_of x) [] (omega (arith, is, length-append before (open_batches (Some x) (seen d)), some refl, begins)) (All-nil (λ (r : LogRecord). r.first_batch ≤ count));
    begins = omega (arith, begins, ap length none_before);
  }

  come : HasCome (contents_for p) (present_state p d).count (open_records p.logs.open_region) []
  come =
      let may = may_rotate p s d stored none_closed used generation in
      come_by p.logs.open_region (present_state p d).count may.count refl may.some (begins_at p d stored.carried.held) each_open

  module _ (o : OpenRegion) (new : IsInLeastFree p.logs.log_sectors (s.generation + 1) (batch_count s.points) (open_records p.logs.open_region) (Some o)) where
    -- the new log is the one that an opening would open
    same_log : new_records (least_free (open_records p.logs.open_region)) (p.logs.generation + 1) ((present_state p d).count + 1) ≡ record_of o ∷ []
    same_log =
        let here = new_here p s d stored none_closed used generation o new in
        let epoch = p.logs.generation + 1 in
        let first = (present_state p d).count + 1 in
        ap (λ (r : Option ℕ). new_records r epoch first) (sym here.least)
        ∙ ap (λ (k : ℕ). new_records (Some o.region) k first) (sym here.new_log.epoch)
        ∙ ap (λ (k : ℕ). new_records (Some o.region) o.log.epoch k) (sym here.new_log.first)

    next_is : IsManifest (contents_for (rotated_placement p o))
    next_is = subst IsManifest (ap made same_log) (next_fits (contents_for p) (present_state p d).count (open_records p.logs.open_region) fits come (λ e. omega (arith, e, generation, stored.state.placed.generation)))
      where
        made : List LogRecord → Contents
        made logs = record { generation = p.logs.generation + 1; base = p.logs.base; next_table = p.logs.next_table; runs = p.runs; logs = open_records p.logs.open_region ++ logs; tables = p.tables }

    pub rotated_fits : (n : ℕ) → p.logs.next_table ≤ n → n ≤ last_number + 1 → IsManifest (contents_for (with_next n (rotated_placement p o)))
    rotated_fits n low high = next_number (contents_for (rotated_placement p o)) n low high next_is
