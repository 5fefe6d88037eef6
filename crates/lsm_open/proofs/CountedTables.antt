-- Tables that stand are counted, and stand as counted; what a counted manifest names stands for the same.
use Rattle.std.proofs.Common.{◌≡◌, ℕ, zero, suc, ◌≤◌, ◌<◌, ◌==◌, List, [], ◌∷◌, ◌++◌, length, map, All, Option, Some, None, refl, sym, ◌∙◌, ap, subst, arith}
use Rattle.std.specs.Prelude.{IfSome, option_map}
use Rattle.std.specs.List.{HoldsAt}
use Rattle.std.proofs.lemmas.Bool.{cond-true, eq-eqb}
use Rattle.std.proofs.lemmas.List.{length-map}
use Rattle.std.proofs.lemmas.List.Elements.{All-nil, All-cons, All-head, All-tail}
use Rattle.lsm_codec.specs.Manifests.{Contents, IsManifest, IsManifestOf}
use Rattle.lsm_codec.specs.Pairs.{Pairwise}
use Rattle.lsm_codec.specs.Reading.{◌>>=◌}
use Rattle.lsm_codec.specs.TableRecords.{IsTableRecord, IsOfVersion, TablesAgree, IsOfRun, HasRun}
use Rattle.lsm_codec.specs.Versions.{Version, deletes_in}
use Rattle.lsm_codec.specs.declared.superblock.FormatVersion.TheVariants.{Two}
use Rattle.lsm_codec.specs.declared.table_record.TableRecord.{TableRecord}
use Rattle.lsm_levels.specs.Orders.{IsVersionOrder}
use Rattle.lsm_mem.specs.EntryOrder.{with_batches}
use Rattle.lsm_mem.specs.Versions.{map_of}
use Rattle.lsm_open.specs.Counting.{deletes_counted, told_or, deletes_of, with_deletes, counted_records, with_tables, counted}
use Rattle.lsm_root.specs.CrashState.{CrashState}
use Rattle.lsm_open.specs.Image.{count_in, left_in, HoldNamed, StandFor}
use Rattle.lsm_open.specs.LogRegions.{all_batches, regions_with_batches}
use Rattle.lsm_open.specs.Tables.{blocks_at, versions_if, versions_at, table_versions, IsTableAt, AscendInRun, AreTables}
use Rattle.lsm_root.proofs.Standing.{standing}
use Rattle.lsm_table.specs.Division.{entries_of}
use Rattle.lsm_table.specs.Outlines.{IsRecordOf, outline_in, outline_of}
use Rattle.lsm_table.specs.Stored.{table_in}
use Rattle.lsm_table.proofs.Deletes.{few_deletes}
use Rattle.lsm_table.proofs.Outlines.{outline_laws_hold}

abbrev Sectors : Type 0
Sectors = List (List ℕ)

-- footer, index and filter don't tell the deletes
pub same_outline : (t : TableRecord) (deletes : ℕ) (footer index filter : List ℕ) → outline_of (with_deletes t deletes) footer index filter ≡ outline_of t footer index filter
unfolding outline_of
same_outline t deletes footer index filter = refl

holds_mapped : (P : TableRecord → Type 0) (f : TableRecord → TableRecord) → ((t : TableRecord) → P t → P (f t)) → (ts : List TableRecord) (k : ℕ) → k < length ts → HoldsAt P ts k → HoldsAt P (map f ts) k
holds_mapped P f each [] k lt holds = absurd (omega (arith, lt))
holds_mapped P f each (t ∷ ts) zero lt holds = λ d. each t (holds t)
holds_mapped P f each (t ∷ ts) (suc k) lt holds = λ d. holds_mapped P f each ts k (omega (arith, lt)) (λ e. holds e) d

module _ (n : ℕ) (s : Sectors) where
  -- a record with the deletes of its table's versions
  abbrev pub counted_one : TableRecord → TableRecord
  counted_one t = with_deletes t (deletes_in (versions_at n s t))

  abbrev pub counted_all : List TableRecord → List TableRecord
  counted_all ts = map counted_one ts

  same_lists : (ts : List TableRecord) → map (versions_at n s) (counted_all ts) ≡ map (versions_at n s) ts
  same_lists [] = refl
  same_lists (t ∷ ts) = ap (λ (l : List (List Version)). versions_at n s t ∷ l) (same_lists ts)

  pub same_versions : (ts : List TableRecord) → table_versions n s (counted_all ts) ≡ table_versions n s ts
  same_versions [] = refl
  same_versions (t ∷ ts) = ap (λ (vs : List Version). versions_at n s t ++ vs) (same_versions ts)

  ascend_one : (t : TableRecord) (us : List TableRecord) → All (AscendInRun n s t) us → All (AscendInRun n s (counted_one t)) (counted_all us)
  ascend_one t [] all = All-nil (AscendInRun n s (counted_one t))
  ascend_one t (u ∷ us) all = All-cons (AscendInRun n s (counted_one t)) (counted_one u) (counted_all us) (All-head (AscendInRun n s t) u us all) (ascend_one t us (All-tail (AscendInRun n s t) u us all))

  ascend_all : (ts : List TableRecord) → Pairwise (AscendInRun n s) ts → Pairwise (AscendInRun n s) (counted_all ts)
  ascend_all [] pairs = tt
  ascend_all (t ∷ ts) pairs = (ascend_one t ts pairs.0, ascend_all ts pairs.1)

  module _ (base : ℕ) where
    pub recorded : (t : TableRecord) (is : IsTableAt n base s t) → IsRecordOf t (outline_in t.number is.filter is.table)
    recorded t is = ((outline_laws_hold.exact t _ _ _ (outline_in t.number is.filter is.table)).0 is.told).1.by_record

    its_versions : (t : TableRecord) (is : IsTableAt n base s t) → versions_at n s t ≡ entries_of is.table
    its_versions t is = ap versions_if is.spelled

    -- no more deletes than entries
    pub few : (t : TableRecord) → IsTableAt n base s t → deletes_in (versions_at n s t) ≤ t.entries
    few t is = omega (arith, few_deletes (versions_at n s t), ap (λ (vs : List Version). length vs) (its_versions t is), (recorded t is).entries)

    count_blocks : (t : TableRecord) → IsTableAt n base s t → deletes_counted t.entries (table_in t.data_blocks (blocks_at n s t)) ≡ Some (deletes_in (versions_at n s t))
    count_blocks t is =
        ap (deletes_counted t.entries) is.spelled
        ∙ cond-true (length (entries_of is.table) == t.entries) (Some (deletes_in (entries_of is.table))) None (eq-eqb (length (entries_of is.table)) t.entries (sym (recorded t is).entries))
        ∙ ap (λ (vs : List Version). Some (deletes_in vs)) (sym (its_versions t is))

    -- the deletes of a table that stands are those of its versions
    deletes_are : (t : TableRecord) → IsTableAt n base s t → deletes_of n s t ≡ Some (deletes_in (versions_at n s t))
    deletes_are t is = by t.deletes is.counted
      where
        by : (o : Option ℕ) → IfSome o (λ deletes. deletes ≡ deletes_in (versions_at n s t))
            → told_or o (deletes_counted t.entries (table_in t.data_blocks (blocks_at n s t))) ≡ Some (deletes_in (versions_at n s t))
        by (Some deletes) e = ap (λ (d : ℕ). Some d) e
        by None e = count_blocks t is

    pub all_counted : (ts : List TableRecord) → All (IsTableAt n base s) ts → counted_records n s ts ≡ Some (counted_all ts)
    all_counted [] all = refl
    all_counted (t ∷ ts) all =
        ap (λ (o : Option ℕ). option_map (with_deletes t) o >>= λ u. counted_records n s ts >>= λ us. Some (u ∷ us)) (deletes_are t (All-head (IsTableAt n base s) t ts all))
        ∙ ap (λ (o : Option (List TableRecord)). o >>= λ us. Some (counted_one t ∷ us)) (all_counted ts (All-tail (IsTableAt n base s) t ts all))

    -- it stands as counted
    pub stands_counted : (t : TableRecord) → IsTableAt n base s t → IsTableAt n base s (counted_one t)
    stands_counted t is = record {
      table = is.table;
      filter = is.filter;
      spelled = is.spelled;
      sorted = is.sorted;
      told = same_outline t (deletes_in (versions_at n s t)) _ _ _ ∙ is.told;
      members = is.members;
      numbered = is.numbered;
      counted = refl;
    }

    all_stand : (ts : List TableRecord) → All (IsTableAt n base s) ts → All (IsTableAt n base s) (counted_all ts)
    all_stand [] all = All-nil (IsTableAt n base s)
    all_stand (t ∷ ts) all =
        All-cons (IsTableAt n base s) (counted_one t) (counted_all ts) (stands_counted t (All-head (IsTableAt n base s) t ts all)) (all_stand ts (All-tail (IsTableAt n base s) t ts all))

    pub tables_counted : (ts : List TableRecord) → AreTables n base ts s → AreTables n base (counted_all ts) s
    tables_counted ts are = record {
      each = all_stand ts are.each;
      order = subst IsVersionOrder (sym (same_lists ts)) are.order;
      ascend = ascend_all ts are.ascend;
    }

    -- ---- the limits

    module _ (next runs : ℕ) where
      one_fits : (t : TableRecord) → IsTableAt n base s t → IsTableRecord next runs t → IsTableRecord next runs (counted_one t)
      one_fits t is fits = record {
        number = fits.number;
        level = fits.level;
        run = fits.run;
        sizes = record {
          data_low = fits.sizes.data_low;
          data_high = fits.sizes.data_high;
          index_low = fits.sizes.index_low;
          index_high = fits.sizes.index_high;
          entries_low = fits.sizes.entries_low;
          entries_high = fits.sizes.entries_high;
          deletes = few t is;
        };
        inside = fits.inside;
      }

      all_fit : (ts : List TableRecord) → All (IsTableAt n base s) ts → All (IsTableRecord next runs) ts → All (IsTableRecord next runs) (counted_all ts)
      all_fit [] all fit = All-nil (IsTableRecord next runs)
      all_fit (t ∷ ts) all fit = All-cons (IsTableRecord next runs) (counted_one t) (counted_all ts)
          (one_fits t (All-head (IsTableAt n base s) t ts all) (All-head (IsTableRecord next runs) t ts fit)) (all_fit ts (All-tail (IsTableAt n base s) t ts all) (All-tail (IsTableRecord next runs) t ts fit))

  agree_one : (t : TableRecord) (us : List TableRecord) → All (TablesAgree t) us → All (TablesAgree (counted_one t)) (counted_all us)
  agree_one t [] all = All-nil (TablesAgree (counted_one t))
  agree_one t (u ∷ us) all =
      let a = All-head (TablesAgree t) u us all in
      All-cons (TablesAgree (counted_one t)) (counted_one u) (counted_all us) (record { numbers = a.numbers; order = a.order; apart = a.apart }) (agree_one t us (All-tail (TablesAgree t) u us all))

  agree_all : (ts : List TableRecord) → Pairwise TablesAgree ts → Pairwise TablesAgree (counted_all ts)
  agree_all [] pairs = tt
  agree_all (t ∷ ts) pairs = (agree_one t ts pairs.0, agree_all ts pairs.1)

  each_told : (ts : List TableRecord) → All (IsOfVersion Two) (counted_all ts)
  each_told [] = All-nil (IsOfVersion Two)
  each_told (t ∷ ts) = All-cons (IsOfVersion Two) (counted_one t) (counted_all ts) refl (each_told ts)

  has_run : (ts : List TableRecord) (run : ℕ) → HasRun ts run → HasRun (counted_all ts) run
  has_run ts run has = (has.0, omega (arith, has.1, length-map ts counted_one), holds_mapped (IsOfRun run) counted_one (λ t is. is) ts has.0 has.1 has.2)

  pub counted_fits : (m : Contents) → AreTables n m.base m.tables s → IsManifest m → IsManifestOf Two (with_tables m (counted_all m.tables))
  counted_fits m are fits = record {
    fits = record {
      numbers = record {
        generation_low = fits.numbers.generation_low;
        generation_high = fits.numbers.generation_high;
        base = fits.numbers.base;
        next_low = fits.numbers.next_low;
        next_high = fits.numbers.next_high;
        runs = fits.numbers.runs;
        logs = fits.numbers.logs;
        tables = omega (arith, fits.numbers.tables, length-map m.tables counted_one);
      };
      logs = record { each = fits.logs.each; agree = fits.logs.agree; begins = fits.logs.begins };
      tables = record {
        each = all_fit m.base m.next_table m.runs m.tables are.each fits.tables.each;
        agree = agree_all m.tables fits.tables.agree;
        runs = record { each = λ run lt. has_run m.tables run (fits.tables.runs.each run lt) };
      };
    };
    records = each_told m.tables;
  }

  -- ---- what sectors hold

  pub manifest_counted : (m : Contents) → AreTables n m.base m.tables s → counted n s m ≡ Some (with_tables m (counted_all m.tables))
  manifest_counted m are = ap (option_map (with_tables m)) (all_counted m.base m.tables are.each)

  pub holds_counted : (m : Contents) → HoldNamed n m s → HoldNamed n (with_tables m (counted_all m.tables)) s
  holds_counted m holds = record { tables = tables_counted m.base m.tables holds.tables; follows = holds.follows; fresh = holds.fresh }

  pub left_counted : (m : Contents) → left_in n s (with_tables m (counted_all m.tables)) ≡ left_in n s m
  left_counted m = ap
      (λ (vs : List Version). let left : CrashState = record { count = count_in n s m; map = map_of (with_batches m.base (all_batches n s m.logs) [] ++ vs) (count_in n s m); closed = regions_with_batches n s m.logs; generation = m.generation } in left)
      (same_versions m.tables)

  -- sectors that stand for what a crash left hold a count of each table, and what is counted stands for the same
  pub counts_stand : (left : CrashState) (is : StandFor n left s)
      → (m : Contents) × (counted n s is.manifest ≡ Some m) × IsManifestOf Two m × HoldNamed n m s × (left ≡ left_in n s m)
  counts_stand left is = (
    with_tables is.manifest (counted_all is.manifest.tables),
    manifest_counted is.manifest is.holds.tables,
    counted_fits is.manifest is.holds.tables (standing s n is.manifest is.root).fits,
    holds_counted is.manifest is.holds,
    is.left_is ∙ sym (left_counted is.manifest),
  )
