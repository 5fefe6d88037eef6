-- The versions of tables that stand, by their records, and the order of these.
use Rattle.std.proofs.Common.{◌≡◌, ℕ, suc, ◌+◌, ◌*◌, ◌≤◌, ◌<◌, true, List, [], ◌∷◌, ◌++◌, map, take, All, refl, sym, ap, subst, ◌∙◌, append_assoc, arith}
use Rattle.std.specs.List.{AllByRecursion}
use Rattle.std.specs.declared.cmp.Ordering.TheVariants.{Less}
use Rattle.std.proofs.lemmas.List.Elements.{All-nil, All-cons, All-append, All-weaker}
use Rattle.lsm_codec.specs.Keys.{byte_order}
use Rattle.lsm_codec.specs.Pairs.{Pairwise}
use Rattle.lsm_codec.specs.TableRecords.{extent_blocks}
use Rattle.lsm_codec.specs.Versions.{Version}
use Rattle.lsm_codec.specs.declared.table_record.TableRecord.{TableRecord}
use Rattle.lsm_codec.proofs.KeyOrder.{is_lt_Less}
use Rattle.lsm_levels.specs.Among.{IsAmong}
use Rattle.lsm_levels.specs.Asking.{sector_of}
use Rattle.lsm_levels.specs.Held.{AreRuns}
use Rattle.lsm_levels.specs.Levels.{Levels, places}
use Rattle.lsm_levels.specs.Orders.{IsNewerPlace, IsVersionOrder}
use Rattle.lsm_levels.specs.Stored.{blocks_from, IsStored, AreStored}
use Rattle.lsm_levels.specs.Tables.{Table, record_of, at_most, is_below, IsRun, versions_of}
use Rattle.lsm_levels.proofs.KeyOrder.{below_then, then_below, at_most_itself, below_not}
use Rattle.lsm_levels.proofs.Ranges.{all_of}
use Rattle.lsm_levels.proofs.RunOrders.{stored_ranged}
use Rattle.lsm_open.specs.Tables.{first_data, extent_start, versions_if, versions_at, table_versions, AscendInRun}
use Rattle.lsm_open.specs.ToldTables.{records_of_runs, records_of_levels, records_of}
use Rattle.lsm_open.proofs.BlockReads.{extent_is, some_blocks}
use Rattle.lsm_open.proofs.ListPairs.{pairwise_join}
use Rattle.lsm_table.specs.Stored.{table_of}

abbrev Records : Type 0
Records = List TableRecord

module _ (n : ℕ) (s : List (List ℕ)) where
  abbrev Stored : Table → Type 0
  Stored t = IsStored s (first_data n) t

  -- ---- the versions of tables, by their records

  pub versions_here : (level run : ℕ) (t : Table) → IsStored s (first_data n) t → versions_at n s (record_of level run t) ≡ t.versions
  versions_here level run t is =
      ap versions_if (
      ap (λ (bs : List (List ℕ)). table_of (take r.data_blocks bs)) (extent_is n s r)
      ∙ ap table_of (some_blocks s (extent_start n r) (extent_blocks r) 0 r.data_blocks few)
      ∙ ap (λ (k : ℕ). table_of (blocks_from s k r.data_blocks)) at
      ∙ is.spelled)
      ∙ sym (ap (λ (u : Table). u.versions) is.told)
    where
      r : TableRecord
      r = record_of level run t

      few : 0 + r.data_blocks ≤ extent_blocks r
      few = omega arith

      at : extent_start n r + 8 * 0 ≡ sector_of (first_data n) t 0
      at = omega arith

  pub versions_run : (level run : ℕ) (ts : List Table) → AllByRecursion (IsStored s (first_data n)) ts → table_versions n s (map (record_of level run) ts) ≡ versions_of ts
  versions_run level run [] all = refl
  versions_run level run (t ∷ ts) all =
      ap (λ (vs : List Version). vs ++ table_versions n s (map (record_of level run) ts)) (versions_here level run t all.0)
      ∙ ap (λ (vs : List Version). t.versions ++ vs) (versions_run level run ts all.1)

  -- ---- one run

  abbrev Ascend : TableRecord → TableRecord → Type 0
  Ascend a b = AllByRecursion (λ v. AllByRecursion (λ w. byte_order v.key w.key ≡ Less) (versions_at n s b)) (versions_at n s a)

  keys_below : (t u : Table) (v w : Version) → IsStored s (first_data n) t → IsStored s (first_data n) u → is_below t.last u.first ≡ true → IsAmong v t.versions → IsAmong w u.versions → is_below v.key w.key ≡ true
  keys_below t u v w one two below a b =
      let high = ((stored_ranged s (first_data n) t one).within v a).1 in
      let low = ((stored_ranged s (first_data n) u two).within w b).0 in
      below_then v.key u.first w.key (then_below v.key t.last u.first high below) low

  two_ascend : (level run : ℕ) (t u : Table) → IsStored s (first_data n) t → IsStored s (first_data n) u → is_below t.last u.first ≡ true
      → AllByRecursion (λ v. AllByRecursion (λ w. byte_order v.key w.key ≡ Less) (versions_at n s (record_of level run u))) (versions_at n s (record_of level run t))
  two_ascend level run t u one two below =
      subst (λ (vs : List Version). AllByRecursion (λ v. AllByRecursion (λ w. byte_order v.key w.key ≡ Less) (versions_at n s (record_of level run u))) vs) (sym (versions_here level run t one))
      (subst (λ (ws : List Version). AllByRecursion (λ v. AllByRecursion (λ w. byte_order v.key w.key ≡ Less) ws) t.versions) (sym (versions_here level run u two))
      (all_of (λ v. AllByRecursion (λ w. byte_order v.key w.key ≡ Less) u.versions) t.versions
      (λ v a. all_of (λ w. byte_order v.key w.key ≡ Less) u.versions (λ w b. is_lt_Less (byte_order v.key w.key) (keys_below t u v w one two below a b)))))

  behind_one : (level run : ℕ) (t : Table) (us : List Table) → IsStored s (first_data n) t → AllByRecursion (IsStored s (first_data n)) us → AllByRecursion (λ u. is_below t.last u.first ≡ true) us
      → All (AscendInRun n s (record_of level run t)) (map (record_of level run) us)
  behind_one level run t [] one all below = All-nil (AscendInRun n s (record_of level run t))
  behind_one level run t (u ∷ us) one all below =
      All-cons (AscendInRun n s (record_of level run t)) (record_of level run u) (map (record_of level run) us) (λ same. two_ascend level run t u one all.0 below.0) (behind_one level run t us one all.1 below.1)

  pub run_ascends : (level run : ℕ) (ts : List Table) → IsRun ts → AllByRecursion (IsStored s (first_data n)) ts → Pairwise (AscendInRun n s) (map (record_of level run) ts)
  run_ascends level run [] is all = tt
  run_ascends level run (t ∷ ts) is all = (behind_one level run t ts all.0 all.1 is.1, run_ascends level run ts is.2 all.1)

  -- tables of a run share no key
  newer_beside : (t u : Table) → IsStored s (first_data n) t → IsStored s (first_data n) u → is_below t.last u.first ≡ true → IsNewerPlace t.versions u.versions
  newer_beside t u one two below =
      all_of (λ v. AllByRecursion (λ w. v.key ≡ w.key → w.number < v.number) u.versions) t.versions
      (λ v a. all_of (λ w. v.key ≡ w.key → w.number < v.number) u.versions (λ w b same. absurd (other v w same (keys_below t u v w one two below a b))))
    where
      other : (v w : Version) → v.key ≡ w.key → is_below v.key w.key ≡ true → ⊥
      other v w same less = let no = below_not v.key w.key less in let yes = at_most_itself v.key in let back = subst (λ k. at_most k v.key ≡ true) same yes in cc

  order_behind : (level run : ℕ) (t : Table) (us : List Table) → IsStored s (first_data n) t → AllByRecursion (IsStored s (first_data n)) us → AllByRecursion (λ u. is_below t.last u.first ≡ true) us
      → AllByRecursion (IsNewerPlace (versions_at n s (record_of level run t))) (map (versions_at n s) (map (record_of level run) us))
  order_behind level run t [] one all below = tt
  order_behind level run t (u ∷ us) one all below = (
    subst (λ (vs : List Version). IsNewerPlace vs (versions_at n s (record_of level run u))) (sym (versions_here level run t one))
        (subst (IsNewerPlace t.versions) (sym (versions_here level run u all.0)) (newer_beside t u one all.0 below.0)),
    order_behind level run t us one all.1 below.1,
  )

  pub run_order : (level run : ℕ) (ts : List Table) → IsRun ts → AllByRecursion (IsStored s (first_data n)) ts → IsVersionOrder (map (versions_at n s) (map (record_of level run) ts))
  run_order level run [] is all = tt
  run_order level run (t ∷ ts) is all = (order_behind level run t ts all.0 all.1 is.1, run_order level run ts is.2 all.1)

  -- ---- all runs

  abbrev IsOther : ℕ → ℕ → TableRecord → Type 0
  IsOther level run t = level ≡ t.level → run ≡ t.run → ⊥

  all_records : (P : TableRecord → Type 0) (level run : ℕ) (ts : List Table) → ((t : Table) → P (record_of level run t)) → All P (map (record_of level run) ts)
  all_records P level run [] each = All-nil P
  all_records P level run (t ∷ ts) each = All-cons P (record_of level run t) (map (record_of level run) ts) (each t) (all_records P level run ts each)

  later_runs : (j k : ℕ) (xs : List (List Table)) → j < k → All (λ t. 0 ≡ t.level → j ≡ t.run → ⊥) (records_of_runs k xs)
  later_runs j k [] lt = All-nil (IsOther 0 j)
  later_runs j k (x ∷ xs) lt =
      All-append (IsOther 0 j) (map (record_of 0 k) x) (records_of_runs (suc k) xs) (all_records (IsOther 0 j) 0 k x (λ t a b. omega (arith, b, lt))) (later_runs j (suc k) xs (omega (arith, lt)))

  lower_levels : (j run k : ℕ) (xs : List (List Table)) → j < k → All (λ t. j ≡ t.level → run ≡ t.run → ⊥) (records_of_levels k xs)
  lower_levels j run k [] lt = All-nil (IsOther j run)
  lower_levels j run k (x ∷ xs) lt =
      All-append (IsOther j run) (map (record_of k 0) x) (records_of_levels (suc k) xs) (all_records (IsOther j run) k 0 x (λ t a b. omega (arith, a, lt))) (lower_levels j run (suc k) xs (omega (arith, lt)))

  -- those of one run, before records of other runs
  before_others : (level run : ℕ) (ts : List Table) (rest : List TableRecord) → IsRun ts → AllByRecursion (IsStored s (first_data n)) ts → All (λ t. level ≡ t.level → run ≡ t.run → ⊥) rest → Pairwise (AscendInRun n s) rest
      → Pairwise (AscendInRun n s) (map (record_of level run) ts ++ rest)
  before_others level run ts rest is all other more =
      pairwise_join (AscendInRun n s) (map (record_of level run) ts) rest (run_ascends level run ts is all) more
      (all_records (λ a. All (AscendInRun n s a) rest) level run ts (λ t. All-weaker (IsOther level run) (AscendInRun n s (record_of level run t)) (λ u none same. absurd (none same.0 same.1)) rest other))

  levels_ascend : (k : ℕ) (xs : List (List Table)) → AllByRecursion IsRun xs → AreStored s (first_data n) xs → Pairwise (AscendInRun n s) (records_of_levels k xs)
  levels_ascend k [] runs all = tt
  levels_ascend k (x ∷ xs) runs all = before_others k 0 x (records_of_levels (suc k) xs) runs.0 all.0 (lower_levels k 0 (suc k) xs (omega arith)) (levels_ascend (suc k) xs runs.1 all.1)

  runs_ascend : (k : ℕ) (xs deeper : List (List Table)) → AllByRecursion IsRun xs → AllByRecursion IsRun deeper → AreStored s (first_data n) (xs ++ deeper) → Pairwise (AscendInRun n s) (records_of_runs k xs ++ records_of_levels 1 deeper)
  runs_ascend k [] deeper runs below all = levels_ascend 1 deeper below all
  runs_ascend k (x ∷ xs) deeper runs below all =
      subst (Pairwise (AscendInRun n s)) (sym (append_assoc (map (record_of 0 k) x) (records_of_runs (suc k) xs) (records_of_levels 1 deeper)))
      (before_others 0 k x (records_of_runs (suc k) xs ++ records_of_levels 1 deeper) runs.0 all.0
      (All-append (IsOther 0 k) (records_of_runs (suc k) xs) (records_of_levels 1 deeper) (later_runs k (suc k) xs (omega arith)) (lower_levels 0 k 1 deeper (omega arith)))
      (runs_ascend (suc k) xs deeper runs.1 below all.1))

  -- the records of levels whose tables stand ascend in each run
  pub records_ascend : (levels : Levels) → AreRuns levels → AreStored s (first_data n) (places levels) → Pairwise (AscendInRun n s) (records_of levels)
  records_ascend levels runs all = runs_ascend 0 levels.runs levels.deeper runs.runs runs.deeper all
