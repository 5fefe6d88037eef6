-- A manifest with counted records is one of version 2: the limits don't hang on the deletes, but that these are at most the entries.
use Rattle.std.proofs.Common.{◌≡◌, ℕ, zero, suc, ◌^◌, ◌<◌, ◌≤◌, List, [], ◌∷◌, length, map, All, sym, ap, subst, arith}
use Rattle.std.specs.List.{HoldsAt}
use Rattle.std.proofs.lemmas.List.{length-map}
use Rattle.std.proofs.lemmas.List.Elements.{All-nil, All-cons, All-head, All-tail}
use Rattle.lsm_codec.specs.Geometry.{data_blocks_of}
use Rattle.lsm_codec.specs.Manifests.{Contents, IsManifest, IsManifestOf}
use Rattle.lsm_codec.specs.Pairs.{Pairwise}
use Rattle.lsm_codec.specs.TableRecords.{extent_end, runs_in, HasSizes, IsTableRecord, IsOfVersion, TablesAgree, IsOfRun, HasRun}
use Rattle.lsm_codec.specs.declared.superblock.FormatVersion.TheVariants.{Two}
use Rattle.lsm_codec.specs.declared.table_record.TableRecord.{TableRecord}
use Rattle.lsm_open.specs.Counting.{without_deletes, with_tables}
use Rattle.lsm_root.specs.Layout.{LieInside}

abbrev Records : Type 0
Records = List TableRecord

-- ---- what records say except for the deletes

module _ (Q : TableRecord → Type 0) (to : (t : TableRecord) → Q t → Q (without_deletes t)) (from : (t : TableRecord) → Q (without_deletes t) → Q t) where
  all_to : (ts : Records) → All Q ts → All Q (map without_deletes ts)
  all_to [] all = All-nil Q
  all_to (t ∷ ts) all = All-cons Q (without_deletes t) (map without_deletes ts) (to t (All-head Q t ts all)) (all_to ts (All-tail Q t ts all))

  all_from : (ts : Records) → All Q (map without_deletes ts) → All Q ts
  all_from [] all = All-nil Q
  all_from (t ∷ ts) all = All-cons Q t ts (from t (All-head Q (without_deletes t) (map without_deletes ts) all)) (all_from ts (All-tail Q (without_deletes t) (map without_deletes ts) all))

  pub all_same : (ts us : Records) → map without_deletes us ≡ map without_deletes ts → All Q ts → All Q us
  all_same ts us same all = all_from us (subst (All Q) (sym same) (all_to ts all))

agree_to : (t : TableRecord) (us : Records) → All (TablesAgree t) us → All (TablesAgree (without_deletes t)) (map without_deletes us)
agree_to t [] all = All-nil (TablesAgree (without_deletes t))
agree_to t (u ∷ us) all =
    let a = All-head (TablesAgree t) u us all in
    All-cons (TablesAgree (without_deletes t)) (without_deletes u) (map without_deletes us) (record { numbers = a.numbers; order = a.order; apart = a.apart }) (agree_to t us (All-tail (TablesAgree t) u us all))

agree_from : (t : TableRecord) (us : Records) → All (TablesAgree (without_deletes t)) (map without_deletes us) → All (TablesAgree t) us
agree_from t [] all = All-nil (TablesAgree t)
agree_from t (u ∷ us) all =
    let a = All-head (TablesAgree (without_deletes t)) (without_deletes u) (map without_deletes us) all in
    All-cons (TablesAgree t) u us (record { numbers = a.numbers; order = a.order; apart = a.apart }) (agree_from t us (All-tail (TablesAgree (without_deletes t)) (without_deletes u) (map without_deletes us) all))

pairs_to : (ts : Records) → Pairwise TablesAgree ts → Pairwise TablesAgree (map without_deletes ts)
pairs_to [] pairs = tt
pairs_to (t ∷ ts) pairs = (agree_to t ts pairs.0, pairs_to ts pairs.1)

pairs_from : (ts : Records) → Pairwise TablesAgree (map without_deletes ts) → Pairwise TablesAgree ts
pairs_from [] pairs = tt
pairs_from (t ∷ ts) pairs = (agree_from t ts pairs.0, pairs_from ts pairs.1)

run_to : (run : ℕ) (ts : Records) (k : ℕ) → k < length ts → HoldsAt (IsOfRun run) ts k → HoldsAt (IsOfRun run) (map without_deletes ts) k
run_to run [] k lt holds = absurd (omega (arith, lt))
run_to run (t ∷ ts) zero lt holds = λ d. holds t
run_to run (t ∷ ts) (suc k) lt holds = λ d. run_to run ts k (omega (arith, lt)) (λ e. holds e) d

run_from : (run : ℕ) (ts : Records) (k : ℕ) → k < length ts → HoldsAt (IsOfRun run) (map without_deletes ts) k → HoldsAt (IsOfRun run) ts k
run_from run [] k lt holds = absurd (omega (arith, lt))
run_from run (t ∷ ts) zero lt holds = λ d. holds t
run_from run (t ∷ ts) (suc k) lt holds = λ d. run_from run ts k (omega (arith, lt)) (λ e. holds e) d

has_run : (run : ℕ) (ts us : Records) → map without_deletes us ≡ map without_deletes ts → HasRun ts run → HasRun us run
has_run run ts us same has =
    let long : length us ≡ length ts = omega (arith, ap (λ (l : Records). length l) same, length-map us without_deletes, length-map ts without_deletes) in
    let at : HoldsAt (IsOfRun run) (map without_deletes us) has.0 = subst (λ (l : Records). HoldsAt (IsOfRun run) l has.0) (sym same) (run_to run ts has.0 has.1 has.2) in
    (has.0, omega (arith, has.1, long), run_from run us has.0 (omega (arith, has.1, long)) at)

-- ---- a manifest

-- the limits of a record except for its sizes
record Stands (next runs : ℕ) (t : TableRecord) : Type 0 where
  number : t.number < next
  level : t.level ≤ 4
  run : t.run < runs_in runs t.level
  inside : extent_end t ≤ 2 ^ 32

both_fit : (next runs : ℕ) (us : Records) → All (Stands next runs) us → All HasSizes us → All (IsTableRecord next runs) us
both_fit next runs [] all sizes = All-nil (IsTableRecord next runs)
both_fit next runs (u ∷ us) all sizes =
    let a = All-head (Stands next runs) u us all in
    All-cons (IsTableRecord next runs) u us (record { number = a.number; level = a.level; run = a.run; sizes = All-head HasSizes u us sizes; inside = a.inside })
    (both_fit next runs us (All-tail (Stands next runs) u us all) (All-tail HasSizes u us sizes))

stand_all : (next runs : ℕ) (ts : Records) → All (IsTableRecord next runs) ts → All (Stands next runs) ts
stand_all next runs [] all = All-nil (Stands next runs)
stand_all next runs (t ∷ ts) all =
    let a = All-head (IsTableRecord next runs) t ts all in
    All-cons (Stands next runs) t ts (record { number = a.number; level = a.level; run = a.run; inside = a.inside }) (stand_all next runs ts (All-tail (IsTableRecord next runs) t ts all))

pub records_fit : (m : Contents) (us : Records) → IsManifest m → map without_deletes us ≡ map without_deletes m.tables → All HasSizes us → All (IsOfVersion Two) us → IsManifestOf Two (with_tables m us)
records_fit m us fits same sizes two = record {
  fits = record {
    numbers = record {
      generation_low = fits.numbers.generation_low;
      generation_high = fits.numbers.generation_high;
      base = fits.numbers.base;
      next_low = fits.numbers.next_low;
      next_high = fits.numbers.next_high;
      runs = fits.numbers.runs;
      logs = fits.numbers.logs;
      tables = omega (arith, fits.numbers.tables, ap (λ (l : Records). length l) same, length-map us without_deletes, length-map m.tables without_deletes);
    };
    logs = record { each = fits.logs.each; agree = fits.logs.agree; begins = fits.logs.begins };
    tables = record {
      each = both_fit m.next_table m.runs us
          (all_same (Stands m.next_table m.runs) (λ t a. record { number = a.number; level = a.level; run = a.run; inside = a.inside }) (λ t a. record { number = a.number; level = a.level; run = a.run; inside = a.inside })
          m.tables us same (stand_all m.next_table m.runs m.tables fits.tables.each)) sizes;
      agree = pairs_from us (subst (Pairwise TablesAgree) (sym same) (pairs_to m.tables fits.tables.agree));
      runs = record { each = λ run lt. has_run run m.tables us same (fits.tables.runs.each run lt) };
    };
  };
  records = two;
}

pub records_inside : (size n : ℕ) (ts us : Records) → map without_deletes us ≡ map without_deletes ts → LieInside size n ts → LieInside size n us
records_inside size n = all_same (λ t. extent_end t ≤ data_blocks_of size n) (λ t le. le) (λ t le. le)
