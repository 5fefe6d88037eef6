-- Tables that stand as counted stand as their records say.
use Rattle.std.proofs.Common.{◌≡◌, ℕ, ◌+◌, List, [], ◌∷◌, ◌++◌, map, All, Option, Some, None, refl, sym, ◌∙◌, ap, subst}
use Rattle.std.specs.Prelude.{IfSome, option_map}
use Rattle.std.proofs.lemmas.List.Elements.{All-nil, All-cons, All-head, All-tail}
use Rattle.std.proofs.lemmas.Option.{same_Some}
use Rattle.lsm_codec.specs.Manifests.{Contents}
use Rattle.lsm_codec.specs.Pairs.{Pairwise}
use Rattle.lsm_codec.specs.Reading.{◌>>=◌}
use Rattle.lsm_codec.specs.Versions.{Version, deletes_in}
use Rattle.lsm_codec.specs.declared.table_record.TableRecord.{TableRecord}
use Rattle.lsm_levels.specs.Orders.{IsVersionOrder}
use Rattle.lsm_mem.specs.EntryOrder.{with_batches}
use Rattle.lsm_mem.specs.Versions.{map_of}
use Rattle.lsm_open.specs.Counting.{deletes_counted, told_or, deletes_of, with_deletes, counted_records, with_tables, counted, IsCountedRoot}
use Rattle.lsm_root.specs.CrashState.{CrashState}
use Rattle.lsm_open.specs.Image.{count_in, left_in, HoldNamed, StandFor}
use Rattle.lsm_open.specs.LogRegions.{all_batches, regions_with_batches}
use Rattle.lsm_open.specs.Tables.{blocks_at, versions_at, table_versions, IsTableAt, AscendInRun, AreTables}
use Rattle.lsm_open.specs.ToldTables.{blocks_beside_data}
use Rattle.lsm_open.proofs.CountedTables.{same_outline}
use Rattle.lsm_table.specs.Stored.{table_in}

abbrev Records : Type 0
Records = List TableRecord

module _ (n : ℕ) (s : List (List ℕ)) where
  -- the first record, and those after it, where all are counted
  unpack : (t : TableRecord) (ts us : Records) → counted_records n s (t ∷ ts) ≡ Some us
      → (d : ℕ) × (vs : Records) × (deletes_of n s t ≡ Some d) × (counted_records n s ts ≡ Some vs) × (us ≡ with_deletes t d ∷ vs)
  unpack t ts us e = by (deletes_of n s t) (counted_records n s ts) refl refl e
    where
      by : (o : Option ℕ) (r : Option Records) → deletes_of n s t ≡ o → counted_records n s ts ≡ r
          → (option_map (with_deletes t) o >>= λ (u : TableRecord). r >>= λ (vs : Records). Some (u ∷ vs)) ≡ Some us
          → (d : ℕ) × (vs : Records) × (deletes_of n s t ≡ Some d) × (counted_records n s ts ≡ Some vs) × (us ≡ with_deletes t d ∷ vs)
      by None r a b e = absurd cc
      by (Some d) None a b e = absurd cc
      by (Some d) (Some vs) a b e = (d, vs, a, b, sym (same_Some (with_deletes t d ∷ vs) us e))

  stands_uncounted : (base : ℕ) (t : TableRecord) (d : ℕ) → deletes_of n s t ≡ Some d → IsTableAt n base s (with_deletes t d) → IsTableAt n base s t
  stands_uncounted base t d known is = record {
    table = is.table;
    filter = is.filter;
    spelled = is.spelled;
    sorted = is.sorted;
    told = sym (same_outline t d _ _ _) ∙ is.told;
    members = is.members;
    numbered = is.numbered;
    counted = by t.deletes known;
  }
    where
      by : (o : Option ℕ) → told_or o (deletes_counted t.entries (table_in t.data_blocks (blocks_at n s t))) ≡ Some d → IfSome o (λ deletes. deletes ≡ deletes_in (versions_at n s t))
      by (Some x) e = same_Some x d e ∙ is.counted
      by None e = tt

  all_uncounted_stand : (base : ℕ) (ts us : Records) → counted_records n s ts ≡ Some us → All (IsTableAt n base s) us → All (IsTableAt n base s) ts
  all_uncounted_stand base [] us e all = All-nil (IsTableAt n base s)
  all_uncounted_stand base (t ∷ ts) us e all =
      let p = unpack t ts us e in
      let each : All (IsTableAt n base s) (with_deletes t p.0 ∷ p.1) = subst (All (IsTableAt n base s)) p.4 all in
      All-cons (IsTableAt n base s) t ts (stands_uncounted base t p.0 p.2 (All-head (IsTableAt n base s) (with_deletes t p.0) p.1 each)) (all_uncounted_stand base ts p.1 p.3 (All-tail (IsTableAt n base s) (with_deletes t p.0) p.1 each))

  lists_same : (ts us : Records) → counted_records n s ts ≡ Some us → map (versions_at n s) us ≡ map (versions_at n s) ts
  lists_same [] us e = ap (map (versions_at n s)) (sym (same_Some [] us e))
  lists_same (t ∷ ts) us e =
      let p = unpack t ts us e in
      ap (map (versions_at n s)) p.4 ∙ ap (λ (l : List (List Version)). versions_at n s t ∷ l) (lists_same ts p.1 p.3)

  versions_same : (ts us : Records) → counted_records n s ts ≡ Some us → table_versions n s us ≡ table_versions n s ts
  versions_same [] us e = ap (table_versions n s) (sym (same_Some [] us e))
  versions_same (t ∷ ts) us e =
      let p = unpack t ts us e in
      ap (table_versions n s) p.4 ∙ ap (λ (vs : List Version). versions_at n s t ++ vs) (versions_same ts p.1 p.3)

  ascend_one : (t : TableRecord) (d : ℕ) (ts us : Records) → counted_records n s ts ≡ Some us → All (AscendInRun n s (with_deletes t d)) us → All (AscendInRun n s t) ts
  ascend_one t d [] us e all = All-nil (AscendInRun n s t)
  ascend_one t d (u ∷ ts) us e all =
      let p = unpack u ts us e in
      let P : TableRecord → Type 0 = AscendInRun n s (with_deletes t d) in
      let each : All P (with_deletes u p.0 ∷ p.1) = subst (All P) p.4 all in
      All-cons (AscendInRun n s t) u ts (All-head P (with_deletes u p.0) p.1 each) (ascend_one t d ts p.1 p.3 (All-tail P (with_deletes u p.0) p.1 each))

  ascend_all : (ts us : Records) → counted_records n s ts ≡ Some us → Pairwise (AscendInRun n s) us → Pairwise (AscendInRun n s) ts
  ascend_all [] us e pairs = tt
  ascend_all (t ∷ ts) us e pairs =
      let p = unpack t ts us e in
      let both : Pairwise (AscendInRun n s) (with_deletes t p.0 ∷ p.1) = subst (Pairwise (AscendInRun n s)) p.4 pairs in
      (ascend_one t p.0 ts p.1 p.3 both.0, ascend_all ts p.1 p.3 both.1)

  tables_uncounted : (base : ℕ) (ts us : Records) → counted_records n s ts ≡ Some us → AreTables n base us s → AreTables n base ts s
  tables_uncounted base ts us e are = record {
    each = all_uncounted_stand base ts us e are.each;
    order = subst IsVersionOrder (lists_same ts us e) are.order;
    ascend = ascend_all ts us e are.ascend;
  }

  -- a manifest that is counted has just the counted tables
  its_tables : (stood m : Contents) → counted n s stood ≡ Some m → (us : Records) × (counted_records n s stood.tables ≡ Some us) × (m ≡ with_tables stood us)
  its_tables stood m e = by (counted_records n s stood.tables) refl e
    where
      by : (o : Option Records) → counted_records n s stood.tables ≡ o → option_map (with_tables stood) o ≡ Some m → (us : Records) × (counted_records n s stood.tables ≡ Some us) × (m ≡ with_tables stood us)
      by None a e = absurd cc
      by (Some us) a e = (us, a, sym (same_Some (with_tables stood us) m e))

  -- footer, index and filter are no more and no fewer blocks
  beside_same : (ts us : Records) → counted_records n s ts ≡ Some us → blocks_beside_data us ≡ blocks_beside_data ts
  beside_same [] us e = ap blocks_beside_data (sym (same_Some [] us e))
  beside_same (t ∷ ts) us e =
      let p = unpack t ts us e in
      ap blocks_beside_data p.4 ∙ ap (λ (k : ℕ). (t.index_blocks + 2) + k) (beside_same ts p.1 p.3)

  pub same_beside : (stood m : Contents) → counted n s stood ≡ Some m → blocks_beside_data m.tables ≡ blocks_beside_data stood.tables
  same_beside stood m e =
      let p = its_tables stood m e in
      ap (λ (x : Contents). blocks_beside_data x.tables) p.2 ∙ beside_same stood.tables p.0 p.1

  -- sectors that hold what a counted manifest names stand for what it leaves, in whichever version the manifest is
  pub counted_stand : (m : Contents) → IsCountedRoot n m s → HoldNamed n m s → StandFor n (left_in n s m) s
  counted_stand m root holds =
      let stood = root.stood in
      let p = its_tables stood m root.counted_is in
      let held : HoldNamed n (with_tables stood p.0) s = subst (λ (x : Contents). HoldNamed n x s) p.2 holds in
      record {
        manifest = stood;
        root = root.root;
        holds = record { tables = tables_uncounted stood.base stood.tables p.0 p.1 held.tables; follows = held.follows; fresh = held.fresh };
        left_is =
            ap (left_in n s) p.2
            ∙ ap (λ (vs : List Version). let left : CrashState = record { count = count_in n s stood; map = map_of (with_batches stood.base (all_batches n s stood.logs) [] ++ vs) (count_in n s stood); closed = regions_with_batches n s stood.logs; generation = stood.generation } in left)
            (versions_same stood.tables p.0 p.1);
      }
