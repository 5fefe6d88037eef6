-- The layout of the next generation: its manifest is the next one, and its open log is within the limits.
use Rattle.std.proofs.Common.{◌≡◌, ◌≢◌, ℕ, suc, ◌+◌, ◌*◌, ◌≤◌, List, [], ◌∷◌, ◌++◌, Some, None, refl, sym, ◌∙◌, ap, subst, arith}
use Rattle.std.specs.Prelude.{Option, option_map}
use Rattle.std.proofs.Math.Nat.{mul-le-mul_right}
use Rattle.lsm_codec.specs.declared.log_record.LogRecord.{LogRecord}
use Rattle.lsm_codec.specs.declared.table_record.TableRecord.{TableRecord}
use Rattle.lsm_codec.specs.Manifests.{Contents, IsManifest}
use Rattle.lsm_open.specs.Answered.{IsNewRegionIfOpen}
use Rattle.lsm_root.specs.CrashState.{last_number}
use Rattle.lsm_open.specs.LogRegions.{first_region}
use Rattle.lsm_open.specs.Layout.{Layout, open_records}
use Rattle.lsm_open.specs.Placements.{contents_for}
use Rattle.lsm_open.specs.Reopening.{least_free, new_records, next_contents, IsNewLog, IsNewIfOpen, IsNextLayout, HasCome}
use Rattle.lsm_open.specs.Switching.{IsInLeastFree}
use Rattle.lsm_open.specs.declared.regions.OpenRegion.{OpenRegion}
use Rattle.lsm_open.proofs.NextManifests.{least_low, next_fits}
use Rattle.lsm_root.specs.Layout.{IsGeometry}

-- ---- its manifest

-- a new log's record is the one that the manifest lists
open_is : (n generation count : ℕ) (o : Option OpenRegion) → IsNewIfOpen n generation count o → open_records o ≡ new_records (option_map (λ (o : OpenRegion). o.region) o) generation (count + 1)
open_is n generation count None new = refl
open_is n generation count (Some o) new =
    ap (λ (e : ℕ). of o.region e o.log.first) new.epoch ∙ ap (λ (f : ℕ). of o.region generation f) new.first
  where
    of : ℕ → ℕ → ℕ → List LogRecord
    of region epoch first = record { region = region; epoch = epoch; first_batch = first } ∷ []

-- the next layout with a manifest's tables is the next manifest
pub layout_says : (n : ℕ) (m : Contents) (count : ℕ) (l : Layout) → IsNextLayout n m count l → contents_for (record { logs = l; runs = m.runs; tables = m.tables }) ≡ next_contents m l.closed count
layout_says n m count l next =
    ap (λ (g : ℕ). says g l.base l.next_table (open_records l.open_region)) next.generation
    ∙ ap (λ (b : ℕ). says (m.generation + 1) b l.next_table (open_records l.open_region)) next.base
    ∙ ap (λ (t : ℕ). says (m.generation + 1) m.base t (open_records l.open_region)) next.next_table
    ∙ ap (λ (rs : List LogRecord). says (m.generation + 1) m.base m.next_table rs)
    (open_is n (m.generation + 1) count l.open_region next.new_log ∙ ap (λ (o : Option ℕ). new_records o (m.generation + 1) (count + 1)) next.least)
  where
    says : ℕ → ℕ → ℕ → List LogRecord → Contents
    says g b t rs = record { generation = g; base = b; next_table = t; runs = m.runs; logs = l.closed ++ rs; tables = m.tables }

-- the installed manifest is the next one
pub installs : (n count : ℕ) (m manifest : Contents) (closed : List LogRecord) (runs : ℕ) (tables : List TableRecord) (l : Layout) → manifest ≡ contents_for (record { logs = l; runs = runs; tables = tables }) → runs ≡ m.runs → tables ≡ m.tables → IsNextLayout n m count l → l.closed ≡ closed → manifest ≡ next_contents m closed count
installs n count m manifest closed runs tables l is same_runs same_tables next kept =
    is ∙ ap (λ (k : ℕ). contents_for (record { logs = l; runs = k; tables = tables })) same_runs ∙ ap (λ (ts : List TableRecord). contents_for (record { logs = l; runs = m.runs; tables = ts })) same_tables
    ∙ layout_says n m count l next ∙ ap (λ (logs : List LogRecord). next_contents m logs count) kept

-- its new log is open in the least free region
pub least_kept : (n count : ℕ) (m : Contents) (closed : List LogRecord) (l : Layout) → IsNextLayout n m count l → l.closed ≡ closed → IsInLeastFree n (m.generation + 1) count closed l.open_region
least_kept n count m closed l next same = record { least = next.least ∙ ap least_free same; new_log = next.new_log }

-- ---- within the limits, whatever the device holds

regions_inside : (size n : ℕ) → IsGeometry size n → first_region + 3 * n ≤ size
regions_inside size n is = omega (arith, is.log_high, is.device.low)

module _ (size k : ℕ) (m : Contents) (count : ℕ) (l : Layout) (geometry : IsGeometry size k) (fits : IsManifest m) (has_next : m.generation ≢ last_number) (come : HasCome m count l.closed []) (next : IsNextLayout k m count l) where
  next_here : IsManifest (next_contents m l.closed count)
  next_here = next_fits m count l.closed fits come has_next

  pub opened_in : (o : Option OpenRegion) → l.open_region ≡ o → IsNewIfOpen k (m.generation + 1) count o → IsNewRegionIfOpen size l.log_sectors l.generation count o
  opened_in None is new = tt
  opened_in (Some o) is new =
      let low : o.region ≤ 2 = least_low l.closed o.region (sym next.least ∙ ap (option_map (λ (x : OpenRegion). x.region)) is) in
      let last : suc o.region * k ≤ 3 * k = mul-le-mul_right k (omega arith) in
      let there : IsNewLog l.log_sectors l.generation count o = subst (λ (j : ℕ). IsNewLog j l.generation count o) (sym next.log_size) (subst (λ (e : ℕ). IsNewLog k e count o) (sym next.generation) new) in
      let epoch : o.log.epoch ≡ (next_contents m l.closed count).generation = new.epoch in
      record {
        region = low;
        within = omega (arith, new.start, new.sectors, last, regions_inside size k geometry);
        numbers = record {
          epoch_low = omega (arith, epoch, next_here.numbers.generation_low);
          epoch_high = omega (arith, epoch, next_here.numbers.generation_high);
          first_low = omega (arith, new.first);
          last_high = omega (arith, new.first, come.count_high);
        };
        new_log = there;
      }
