-- Levels whose tables have numbers and extents of their own are named by a manifest.
use Rattle.std.proofs.Common.{◌≡◌, ◌≢◌, inl, inr, ℕ, suc, ◌+◌, ◌≤◌, ◌<◌, ◌^◌, List, [], ◌∷◌, ◌++◌, length, map, get_or, All, refl, sym, ap, subst, append_assoc, arith}
use Rattle.std.specs.List.{AllByRecursion}
use Rattle.std.proofs.lemmas.List.Elements.{All-nil, All-cons, All-head, All-tail}
use Rattle.lsm_codec.proofs.Lists.{all_left, all_right}
use Rattle.lsm_codec.specs.Geometry.{data_blocks_of}
use Rattle.lsm_codec.specs.Indexes.{index_count}
use Rattle.lsm_codec.specs.Manifests.{TablesFit}
use Rattle.lsm_codec.specs.Pairs.{Pairwise}
use Rattle.lsm_codec.specs.TableRecords.{extent_end, HasSizes, InOrder, AreApart, TablesAgree}
use Rattle.lsm_codec.specs.declared.table_record.TableRecord.{TableRecord}
use Rattle.lsm_levels.specs.Held.{AreRuns}
use Rattle.lsm_levels.specs.Levels.{Levels, all_tables, places}
use Rattle.lsm_levels.specs.NamedBlocks.{AreNumberedApart}
use Rattle.lsm_levels.specs.Stored.{LiesWithin, AreWithin}
use Rattle.lsm_levels.specs.Tables.{Table, record_of}
use Rattle.lsm_open.specs.Layout.{Layout}
use Rattle.lsm_open.specs.Placements.{contents_for}
use Rattle.lsm_open.specs.Recovering.{placed_in}
use Rattle.lsm_open.specs.Tables.{first_data}
use Rattle.lsm_open.specs.ToldTables.{records_of_runs, records_of_levels, records_of, IsOutlined}
use Rattle.lsm_root.specs.Layout.{IsGeometry, LieInside}
use Rattle.lsm_machine.specs.Accounts.{LieApart, AllLieApart}
use Rattle.lsm_open.proofs.ManifestRecords.{records_within, records_in_order, records_have_runs}

-- ---- tables, and their records one by one

abbrev IsRecordOf : Table → TableRecord → Type 0
IsRecordOf t r = (lev : ℕ) × (run : ℕ) × (r ≡ record_of lev run t)

abbrev AreRecordsOf : List Table → List TableRecord → Type 0
AreRecordsOf [] [] = Unit {0}
AreRecordsOf (t ∷ ts) (r ∷ rs) = IsRecordOf t r × AreRecordsOf ts rs
AreRecordsOf [] (r ∷ rs) = ⊥
AreRecordsOf (t ∷ ts) [] = ⊥

of_front : (lev run : ℕ) (ts tables : List Table) (records : List TableRecord) → AreRecordsOf tables records → AreRecordsOf (ts ++ tables) (map (record_of lev run) ts ++ records)
of_front lev run [] tables records of = of
of_front lev run (t ∷ ts) tables records of = ((lev, run, refl), of_front lev run ts tables records of)

of_levels : (lev : ℕ) (runs : List (List Table)) → AreRecordsOf (all_tables runs) (records_of_levels lev runs)
of_levels lev [] = tt
of_levels lev (ts ∷ rest) = of_front lev 0 ts (all_tables rest) (records_of_levels (suc lev) rest) (of_levels (suc lev) rest)

of_runs : (run : ℕ) (runs deeper : List (List Table)) → AreRecordsOf (all_tables (runs ++ deeper)) (records_of_runs run runs ++ records_of_levels 1 deeper)
of_runs run [] deeper = of_levels 1 deeper
of_runs run (ts ∷ rest) deeper =
    subst (AreRecordsOf (ts ++ all_tables (rest ++ deeper))) (sym (append_assoc (map (record_of 0 run) ts) (records_of_runs (suc run) rest) (records_of_levels 1 deeper)))
    (of_front 0 run ts (all_tables (rest ++ deeper)) (records_of_runs (suc run) rest ++ records_of_levels 1 deeper) (of_runs (suc run) rest deeper))

-- the records of levels are those of their tables
recorded : (levels : Levels) → AreRecordsOf (all_tables (places levels)) (records_of levels)
recorded levels = of_runs 0 levels.runs levels.deeper

module _ (P : Table → Type 0) (Q : TableRecord → Type 0) where
  -- what holds of each table holds of each record
  each_record : ((lev run : ℕ) (t : Table) → P t → Q (record_of lev run t)) → (ts : List Table) (rs : List TableRecord) → AreRecordsOf ts rs → AllByRecursion P ts → All Q rs
  each_record to [] [] of all = All-nil Q
  each_record to [] (r ∷ rs) of all = absurd of
  each_record to (t ∷ ts) [] of all = absurd of
  each_record to (t ∷ ts) (r ∷ rs) of all = All-cons Q r rs (subst Q (sym of.0.2) (to of.0.0 of.0.1 t all.0)) (each_record to ts rs of.1 all.1)

  -- and the other way
  each_table : ((lev run : ℕ) (t : Table) → Q (record_of lev run t) → P t) → (ts : List Table) (rs : List TableRecord) → AreRecordsOf ts rs → All Q rs → AllByRecursion P ts
  each_table to [] [] of all = tt
  each_table to [] (r ∷ rs) of all = absurd of
  each_table to (t ∷ ts) [] of all = absurd of
  each_table to (t ∷ ts) (r ∷ rs) of all = (to of.0.0 of.0.1 t (subst Q of.0.2 (All-head Q r rs all)), each_table to ts rs of.1 (All-tail Q r rs all))

-- ---- sizes

-- a table has the sizes that a manifest may name
abbrev pub IsSized : Table → Type 0
IsSized t = HasSizes (record_of 0 0 t)

at_level : (lev run : ℕ) (t : Table) → IsSized t → HasSizes (record_of lev run t)
at_level lev run t sizes = record { data_low = sizes.data_low; data_high = sizes.data_high; index_low = sizes.index_low; index_high = sizes.index_high; entries_low = sizes.entries_low; entries_high = sizes.entries_high; deletes = sizes.deletes }

of_level : (lev run : ℕ) (t : Table) → HasSizes (record_of lev run t) → IsSized t
of_level lev run t sizes = record { data_low = sizes.data_low; data_high = sizes.data_high; index_low = sizes.index_low; index_high = sizes.index_high; entries_low = sizes.entries_low; entries_high = sizes.entries_high; deletes = sizes.deletes }

-- the tables that a manifest names have them
pub sized_by : (levels : Levels) → All HasSizes (records_of levels) → AllByRecursion IsSized (all_tables (places levels))
sized_by levels all = each_table IsSized HasSizes of_level (all_tables (places levels)) (records_of levels) (recorded levels) all

-- ---- each two

abbrev Differ : TableRecord → TableRecord → Type 0
Differ a b = (a.number ≢ b.number) × AreApart a b

-- how many blocks a table of an outline has
blocks_are : (t : Table) → IsOutlined t → t.blocks ≡ length t.outline.edges + index_count t.outline.edges + 2
blocks_are t is = ap (λ (u : Table). u.blocks) is

records_apart : (lev run lower other : ℕ) (t u : Table) → IsOutlined t → IsOutlined u → LieApart t u → AreApart (record_of lev run t) (record_of lower other u)
records_apart lev run lower other t u is its (inl le) = inl (omega (arith, le, blocks_are t is))
records_apart lev run lower other t u is its (inr le) = inr (omega (arith, le, blocks_are u its))

differ_others : (lev run : ℕ) (t : Table) (ts : List Table) (rs : List TableRecord) → AreRecordsOf ts rs → IsOutlined t → AllByRecursion IsOutlined ts → AllByRecursion (λ u. u.number ≢ t.number) ts → AllByRecursion (LieApart t) ts
    → All (Differ (record_of lev run t)) rs
differ_others lev run t [] [] of is outlined numbers apart = All-nil (Differ (record_of lev run t))
differ_others lev run t [] (r ∷ rs) of is outlined numbers apart = absurd of
differ_others lev run t (u ∷ ts) [] of is outlined numbers apart = absurd of
differ_others lev run t (u ∷ ts) (r ∷ rs) of is outlined numbers apart =
    All-cons (Differ (record_of lev run t)) r rs
    (subst (Differ (record_of lev run t)) (sym of.0.2) ((λ e. numbers.0 (sym e)), records_apart lev run of.0.0 of.0.1 t u is outlined.0 apart.0))
    (differ_others lev run t ts rs of.1 is outlined.1 numbers.1 apart.1)

differ_all : (ts : List Table) (rs : List TableRecord) → AreRecordsOf ts rs → AllByRecursion IsOutlined ts → AreNumberedApart ts → AllLieApart ts → Pairwise Differ rs
differ_all [] [] of outlined numbers apart = tt
differ_all [] (r ∷ rs) of outlined numbers apart = absurd of
differ_all (t ∷ ts) [] of outlined numbers apart = absurd of
differ_all (t ∷ ts) (r ∷ rs) of outlined numbers apart = (
  subst (λ (x : TableRecord). All (Differ x) rs) (sym of.0.2) (differ_others of.0.0 of.0.1 t ts rs of.1 outlined.0 outlined.1 numbers.0 apart.0),
  differ_all ts rs of.1 outlined.1 numbers.1 apart.1,
)

agreeing : (ts : List TableRecord) → Pairwise Differ ts → Pairwise InOrder ts → Pairwise TablesAgree ts
agreeing [] pairs order = tt
agreeing (t ∷ ts) pairs order = ((λ k u lt. let both = pairs.0 k u lt in record { numbers = both.0; order = order.0 k u lt; apart = both.1 }), agreeing ts pairs.1 order.1)

-- ---- what a manifest names

-- A table that a manifest may name, where the next one has this number: it has an outline, and lies in the data area.
pub record MayBeNamed (next size log : ℕ) (t : Table) : Type 0 where
  pub number : t.number < next
  pub sizes : IsSized t
  pub inside : t.start + t.blocks ≤ data_blocks_of size log
  pub outlined : IsOutlined t

-- in the data area are few blocks
few_blocks : (size log e : ℕ) → size ≤ 1048576 → e ≤ data_blocks_of size log → e ≤ 2 ^ 32
few_blocks size log e high le = omega (arith, high, le)

module _ (next size log : ℕ) (geometry : IsGeometry size log) (levels : Levels) (runs : AreRuns levels) (named : AllByRecursion (MayBeNamed next size log) (all_tables (places levels))) where
  abbrev HasRoom : TableRecord → Type 0
  HasRoom r = (r.number < next) × HasSizes r × (extent_end r ≤ data_blocks_of size log)

  room_of : (lev run : ℕ) (t : Table) → MayBeNamed next size log t → HasRoom (record_of lev run t)
  room_of lev run t may = (may.number, at_level lev run t may.sizes, omega (arith, may.inside, blocks_are t may.outlined))

  room : All (λ r. (r.number < next) × HasSizes r × (extent_end r ≤ data_blocks_of size log)) (records_of levels)
  room = each_record (MayBeNamed next size log) HasRoom room_of (all_tables (places levels)) (records_of levels) (recorded levels) named

  pub named_inside : LieInside size log (records_of levels)
  named_inside = λ k r lt. (room k r lt).2

  outlined_all : AllByRecursion IsOutlined (all_tables (places levels))
  outlined_all = by (all_tables (places levels)) named
    where
      by : (ts : List Table) → AllByRecursion (MayBeNamed next size log) ts → AllByRecursion IsOutlined ts
      by [] all = tt
      by (t ∷ ts) all = (all.0.outlined, by ts all.1)

  pub named_fit : (l : Layout) → l.next_table ≡ next → AreNumberedApart (all_tables (places levels)) → AllLieApart (all_tables (places levels)) → TablesFit (contents_for (placed_in l levels (records_of levels)))
  named_fit l same numbers apart = record {
    each = λ k r lt. let own = room k r lt in let place = records_within levels (length levels.runs) runs.four refl k r lt in
        record { number = subst (λ (j : ℕ). (get_or (records_of levels) k r).number < j) (sym same) own.0; level = place.0; run = place.1; sizes = own.1; inside = few_blocks size log (extent_end (get_or (records_of levels) k r)) geometry.device.high own.2 };
    agree = agreeing (records_of levels) (differ_all (all_tables (places levels)) (records_of levels) (recorded levels) outlined_all numbers apart) (records_in_order levels);
    runs = records_have_runs levels (length levels.runs) runs refl;
  }

  ends_within : (t : Table) → first_data log ≤ size → MayBeNamed next size log t → LiesWithin size (first_data log) t
  ends_within t low may = record { ends = omega (arith, low, may.inside, blocks_are t may.outlined) }

  -- the data blocks of each lie in the device
  pub named_within : first_data log ≤ size → AreWithin size (first_data log) (places levels)
  named_within low = by (places levels) named
    where
      one : (ts : List Table) → AllByRecursion (MayBeNamed next size log) ts → AllByRecursion (LiesWithin size (first_data log)) ts
      one [] all = tt
      one (t ∷ ts) all = (ends_within t low all.0, one ts all.1)

      by : (xs : List (List Table)) → AllByRecursion (MayBeNamed next size log) (all_tables xs) → AreWithin size (first_data log) xs
      by [] all = tt
      by (x ∷ xs) all = (one x (all_left (MayBeNamed next size log) x (all_tables xs) all), by xs (all_right (MayBeNamed next size log) x (all_tables xs) all))
