-- A new log after closed regions.
use Rattle.std.proofs.Common.{◌≡◌, ℕ, suc, ◌+◌, ◌*◌, ◌≤◌, ◌<◌, ◌&&◌, Bool, true, false, List, [], length, get_or, Some, None, refl, sym, ◌∙◌, ap, subst, arith, All}
use Rattle.std.specs.Prelude.{Option, option_map}
use Rattle.std.proofs.Math.Nat.{mul-le-mul_right}
use Rattle.std.proofs.lemmas.Bool.{eq-eqb}
use Rattle.std.proofs.lemmas.List.Elements.{All-nil}
use Rattle.lsm_codec.specs.declared.log_record.LogRecord.{LogRecord}
use Rattle.lsm_device.specs.Areas.{area}
use Rattle.lsm_device.specs.Disk.{Write, at_rest}
use Rattle.lsm_log.specs.Opened.{AreNumbers, HasNoneAbove, IsFree, is_above}
use Rattle.lsm_log.proofs.Epochs.{later_is_free, none_above_more}
use Rattle.lsm_log.proofs.Logs.{none_read, new_open}
use Rattle.lsm_root.specs.CrashState.{last_number}
use Rattle.lsm_open.specs.LogRegions.{first_region, region_start, batches_at, all_batches, follow_on}
use Rattle.lsm_open.specs.Layout.{open_records, open_batches, IsOther, IsLogAtIfOpen}
use Rattle.lsm_open.specs.Placements.{Placement, IsHeld}
use Rattle.lsm_open.specs.Reopening.{least_free, IsNewLog, IsNewIfOpen}
use Rattle.lsm_open.specs.Switching.{IsInLeastFree}
use Rattle.lsm_open.specs.Tables.{AreTables}
use Rattle.lsm_open.specs.declared.regions.OpenRegion.{OpenRegion}
use Rattle.lsm_open.proofs.KeptRecords.{follow_on-append}
use Rattle.lsm_open.proofs.NextManifests.{least_low, least_elsewhere}

abbrev Sectors : Type 0
Sectors = List (List ℕ)

-- no log sector of the regions is above a generation, so of the next generation none is in one of them
pub free_for_next : (generation n region : ℕ) (sectors : Sectors) → region ≤ 2 → first_region + 3 * n ≤ length sectors → HasNoneAbove generation (area first_region (3 * n) sectors) → IsFree (region_start n region) n (generation + 1) (at_rest sectors)
free_for_next generation n region sectors low inside none =
    let fits : suc region * n ≤ 3 * n = mul-le-mul_right n (omega arith) in
    later_is_free generation first_region (3 * n) (region_start n region) n (generation + 1) (at_rest sectors) none (omega arith) (omega (arith, fits)) (omega arith) refl (omega (arith, fits, inside))

-- a closed region's record: it is one of three, and it holds batches
pub record HoldsBatches (n : ℕ) (c : List (List ℕ)) (r : LogRecord) : Type 0 where
  pub region : r.region ≤ 2
  pub some : 1 ≤ length (batches_at n c r)

-- The parts of a placement in the generation after g, at `count` batches, but for its open log.
pub record HoldsAll (q : Placement) (g count : ℕ) (c : List (List ℕ)) : Type 0 where
  pub generation : q.logs.generation ≡ g + 1
  pub inside : first_region + 3 * q.logs.log_sectors ≤ length c
  pub closed : All (HoldsBatches q.logs.log_sectors c) q.logs.closed
  pub follows : follow_on q.logs.log_sectors c (q.logs.base + 1) q.logs.closed ≡ true
  pub counts : count ≡ q.logs.base + length (all_batches q.logs.log_sectors c q.logs.closed)
  pub fresh : HasNoneAbove g (area first_region (3 * q.logs.log_sectors) c)
  pub tables : AreTables q.logs.log_sectors q.logs.base q.tables c
  pub generation_high : g + 1 ≤ last_number
  pub count_high : count ≤ last_number

module _ (q : Placement) (g count : ℕ) (c : Sectors) (all : HoldsAll q g count c) (new : IsInLeastFree q.logs.log_sectors (g + 1) count q.logs.closed q.logs.open_region) where
  region_is : (o : OpenRegion) → q.logs.open_region ≡ Some o → least_free q.logs.closed ≡ Some o.region
  region_is o is = sym new.least ∙ ap (option_map (λ (o : OpenRegion). o.region)) is

  new_of : (o : OpenRegion) → q.logs.open_region ≡ Some o → IsNewLog q.logs.log_sectors (g + 1) count o
  new_of o is = subst (IsNewIfOpen q.logs.log_sectors (g + 1) count) is new.new_log

  free_at : (o : OpenRegion) → q.logs.open_region ≡ Some o → IsFree o.log.start o.log.sectors o.log.epoch (at_rest c)
  free_at o is =
      let n = q.logs.log_sectors in
      let fresh_log = new_of o is in
      subst (λ (k : ℕ). IsFree k o.log.sectors o.log.epoch (at_rest c)) (sym fresh_log.start)
      (subst (λ (k : ℕ). IsFree (region_start n o.region) k o.log.epoch (at_rest c)) (sym fresh_log.sectors)
      (subst (λ (k : ℕ). IsFree (region_start n o.region) n k (at_rest c)) (sym fresh_log.epoch)
      (free_for_next g n o.region c (least_low q.logs.closed o.region (region_is o is)) all.inside all.fresh)))

  numbers : (o : OpenRegion) → q.logs.open_region ≡ Some o → AreNumbers o.log.epoch o.log.first 0
  numbers o is =
      let fresh_log = new_of o is in
      record {
        epoch_low = omega (arith, fresh_log.epoch);
        epoch_high = omega (arith, fresh_log.epoch, all.generation_high);
        first_low = omega (arith, fresh_log.first);
        last_high = omega (arith, fresh_log.first, all.count_high);
      }

  opened_by : (o : Option OpenRegion) → q.logs.open_region ≡ o → IsLogAtIfOpen q.logs (at_rest c) o
  opened_by None is = tt
  opened_by (Some o) is =
      let fresh_log = new_of o is in
      record {
        region = least_low q.logs.closed o.region (region_is o is);
        start = fresh_log.start;
        sectors = fresh_log.sectors;
        epoch = omega (arith, fresh_log.epoch, all.generation);
        is_open = new_open o.log (numbers o is) fresh_log.used fresh_log.next (at_rest c) (free_at o is);
      }

  empty_by : (o : Option OpenRegion) → q.logs.open_region ≡ o → open_batches o c ≡ []
  empty_by None is = refl
  empty_by (Some o) is = none_read o.log.start o.log.sectors o.log.epoch o.log.first (at_rest c) (free_at o is)

  -- no batch is in it
  pub new_empty : open_batches q.logs.open_region c ≡ []
  new_empty = empty_by q.logs.open_region refl

  other_by : (o : Option OpenRegion) (k : ℕ) (r : LogRecord) → q.logs.open_region ≡ o → k < length q.logs.closed → IsOther o (get_or q.logs.closed k r)
  other_by None k r is lt = tt
  other_by (Some o) k r is lt = least_elsewhere q.logs.closed o.region (region_is o is) k r lt

  last_follows : (o : Option OpenRegion) → q.logs.open_region ≡ o → follow_on q.logs.log_sectors c ((q.logs.base + 1) + length (all_batches q.logs.log_sectors c q.logs.closed)) (open_records o) ≡ true
  last_follows None is = refl
  last_follows (Some o) is =
      let fresh_log = new_of o is in
      ap (λ (b : Bool). b && true) (eq-eqb o.log.first ((q.logs.base + 1) + length (all_batches q.logs.log_sectors c q.logs.closed)) (omega (arith, fresh_log.first, all.counts)))

  -- the placement is held
  pub new_held : IsHeld q (at_rest c)
  new_held = record {
    inside = all.inside;
    closed = λ k r lt. let is = all.closed k r lt in record { region = is.region; settled = refl; some = is.some; other = other_by q.logs.open_region k r refl lt };
    follows = follow_on-append q.logs.log_sectors c (q.logs.base + 1) q.logs.closed (open_records q.logs.open_region) all.follows (last_follows q.logs.open_region refl);
    opened = opened_by q.logs.open_region refl;
    above = record {
      stands = none_above_more g q.logs.generation (area first_region (3 * q.logs.log_sectors) c) (omega (arith, all.generation)) all.fresh;
      pends = All-nil (λ (w : Write). is_above q.logs.generation w.bytes ≡ false);
    };
    tables = all.tables;
    still = λ k t lt. refl;
  }
