-- The versions of the parts around a merge, where the tables stand.
use Rattle.std.proofs.Common.{◌≡◌, ◌⊎◌, inl, inr, ⊎_elim, ℕ, zero, suc, ◌<◌, true, false, List, [], ◌∷◌, ◌++◌, length, map, drop, refl, sym, ap, ◌∙◌, subst, arith}
use Rattle.std.specs.List.{AllByRecursion}
use Rattle.lsm_codec.specs.Keys.{Bytes}
use Rattle.lsm_codec.specs.Versions.{Version}
use Rattle.lsm_codec.specs.declared.table_record.TableRecord.{TableRecord}
use Rattle.lsm_levels.proofs.Members.{among_left, among_right, among_either, passed_among}
use Rattle.lsm_codec.proofs.Lists.{all_left, all_right}
use Rattle.lsm_levels.proofs.Ranges.{all_of, of_all, apart_left, apart_right}
use Rattle.lsm_levels.proofs.RunOrders.{stored_ranged}
use Rattle.lsm_levels.proofs.Runs.{all_or, all_filter}
use Rattle.lsm_levels.proofs.Taking.{in_tables}
use Rattle.lsm_levels.specs.Among.{IsAmong}
use Rattle.lsm_levels.specs.Levels.{Levels, all_tables, level, places, newer_runs}
use Rattle.lsm_levels.specs.Stored.{IsStored, AreStored}
use Rattle.lsm_levels.specs.Tables.{Table, KeyRange, record_of, at_most, is_below, meets, versions_of}
use Rattle.lsm_open.proofs.Flushing.{table_versions-append}
use Rattle.lsm_open.specs.Tables.{first_data, table_versions}
use Rattle.lsm_mem.specs.Versions.{joined}
use Rattle.lsm_levels.proofs.LevelVersions.{all_versions}
use Rattle.lsm_open.specs.ToldTables.{records_of_runs, records_of_levels}
use Rattle.lsm_store.proofs.MergeInputs.{uppers_at, IsBeside, in_dropped}
use Rattle.lsm_open.proofs.StoredRecords.{versions_run}
use Rattle.lsm_store.proofs.UpperRuns.{all_in_runs}
use Rattle.lsm_store.specs.InstalledJobs.{ending_before, that_meet, beginning_behind, runs_holding, parts_at}
use Rattle.lsm_table.specs.Division.{ShareNoKey}
use Rattle.lsm_levels.proofs.CursorBlocks.{all_dropped}

abbrev Versions : Type 0
Versions = List Version

module _ (n : ℕ) (s : List (List ℕ)) where
  abbrev S : Table → Type 0
  S t = IsStored s (first_data n) t

  -- ---- where the versions of records are

  -- each version of these records is one of a table with a property
  abbrev pub FromTables : (Table → Type 0) → List TableRecord → Type 0
  FromTables Q ts = (v : Version) → IsAmong v (table_versions n s ts) → (t : Table) × Q t × IsStored s (first_data n) t × IsAmong v t.versions

  from_run : (Q : Table → Type 0) (level run : ℕ) (us : List Table) → AllByRecursion (IsStored s (first_data n)) us → ((t : Table) → IsAmong t us → Q t) → FromTables Q (map (record_of level run) us)
  from_run Q level run us all each v a =
      let t = in_tables v us (subst (IsAmong v) (versions_run n s level run us all) a) in
      (t.0, each t.0 t.1, of_all (IsStored s (first_data n)) us all t.0 t.1, t.2)

  from_both : (Q : Table → Type 0) (xs ys : List TableRecord) → FromTables Q xs → FromTables Q ys → FromTables Q (xs ++ ys)
  from_both Q xs ys f g v a = ⊎_elim (λ b. f v b) (λ b. g v b) (among_either v (table_versions n s xs) (table_versions n s ys) (subst (IsAmong v) (table_versions-append n s xs ys) a))

  from_levels : (Q : Table → Type 0) (k : ℕ) (xs : List (List Table)) → AreStored s (first_data n) xs → ((t : Table) → IsAmong t (all_tables xs) → Q t) → FromTables Q (records_of_levels k xs)
  from_levels Q k [] all each v a = absurd a
  from_levels Q k (x ∷ xs) all each v a =
      from_both Q (map (record_of k 0) x) (records_of_levels (suc k) xs) (from_run Q k 0 x all.0 (λ t b. each t (among_left t x (all_tables xs) b)))
      (from_levels Q (suc k) xs all.1 (λ t b. each t (among_right t x (all_tables xs) b))) v a

  pub from_weaker : (P Q : Table → Type 0) (ts : List TableRecord) → ((t : Table) → P t → Q t) → FromTables P ts → FromTables Q ts
  from_weaker P Q ts f from v a = let t = from v a in (t.0, f t.0 t.1, t.2, t.3)

  -- versions of tables share no key with those of tables apart from them
  pub share_none : (us : List Table) (xs : List Version) (ts : List TableRecord) → ((v : Version) → IsAmong v xs → (a : Table) × IsAmong a us × IsStored s (first_data n) a × IsAmong v a.versions) → FromTables (IsBeside us) ts
      → ShareNoKey xs (table_versions n s ts)
  share_none us xs ts one two =
      all_of (λ v. AllByRecursion (λ w. v.key ≡ w.key → ⊥) (table_versions n s ts)) xs
      (λ v a. all_of (λ w. v.key ≡ w.key → ⊥) (table_versions n s ts) (λ w b same. by v w (one v a) (two w b) same))
    where
      by : (v w : Version) → ((a : Table) × IsAmong a us × IsStored s (first_data n) a × IsAmong v a.versions) → ((t : Table) × IsBeside us t × IsStored s (first_data n) t × IsAmong w t.versions) → v.key ≡ w.key → ⊥
      by v w (a, a_in, a_stored, v_in) (t, beside, t_stored, w_in) same =
          let own = (stored_ranged s (first_data n) a a_stored).within v v_in in
          let other = (stored_ranged s (first_data n) t t_stored).within w w_in in
          beside a a_in v.key own.0 own.1 (subst (λ (k : Bytes). at_most t.first k ≡ true) (sym same) other.0) (subst (λ (k : Bytes). at_most k t.last ≡ true) (sym same) other.1)

  -- ---- the parts

  -- the versions of the records of runs of level 0
  versions_runs : (k : ℕ) (runs : List (List Table)) → AreStored s (first_data n) runs → table_versions n s (records_of_runs k runs) ≡ joined (map versions_of runs)
  versions_runs k [] all = refl
  versions_runs k (run ∷ rest) all =
      table_versions-append n s (map (record_of 0 k) run) (records_of_runs (suc k) rest)
      ∙ ap (λ (vs : Versions). vs ++ table_versions n s (records_of_runs (suc k) rest)) (versions_run n s 0 k run all.0)
      ∙ ap (λ (vs : Versions). versions_of run ++ vs) (versions_runs (suc k) rest all.1)

  module _ (levels : Levels) (stored : AreStored s (first_data n) (places levels)) (r : KeyRange) where
    level_stored : (k : ℕ) → AllByRecursion (IsStored s (first_data n)) (level levels (suc k))
    level_stored k = all_or (AllByRecursion S) levels.deeper k [] (all_right (AllByRecursion S) levels.runs levels.deeper stored) tt

    runs_stored : AreStored s (first_data n) levels.runs
    runs_stored = all_left (AllByRecursion S) levels.runs levels.deeper stored

    holding_stored : (tables : ℕ) → AreStored s (first_data n) (runs_holding tables levels.runs)
    holding_stored tables = all_dropped (AllByRecursion S) (length (newer_runs tables levels.runs)) levels.runs runs_stored

    pub upper_is : (tables i : ℕ) → table_versions n s (parts_at levels i r tables).upper ≡ versions_of (uppers_at levels i r tables)
    upper_is zero i = refl
    upper_is (suc more) zero =
        versions_runs (length (newer_runs (suc more) levels.runs)) (runs_holding (suc more) levels.runs) (holding_stored (suc more)) ∙ sym (all_versions (runs_holding (suc more) levels.runs))
    upper_is (suc more) (suc i) = versions_run n s (suc i) 0 (that_meet r (level levels (suc i))) (all_filter S (meets r) (level levels (suc i)) (level_stored i))

    pub upper_stored : (tables i : ℕ) → AllByRecursion (IsStored s (first_data n)) (uppers_at levels i r tables)
    upper_stored zero i = tt
    upper_stored (suc more) zero = all_in_runs S (runs_holding (suc more) levels.runs) (holding_stored (suc more))
    upper_stored (suc more) (suc i) = all_filter S (meets r) (level levels (suc i)) (level_stored i)

    pub lower_stored : (i : ℕ) → AllByRecursion (IsStored s (first_data n)) (that_meet r (level levels (suc i)))
    lower_stored i = all_filter S (meets r) (level levels (suc i)) (level_stored i)

    pub lower_is : (tables i : ℕ) → table_versions n s (parts_at levels i r tables).lower ≡ versions_of (that_meet r (level levels (suc i)))
    lower_is zero i = versions_run n s (suc i) 0 (that_meet r (level levels (suc i))) (lower_stored i)
    lower_is (suc more) zero = versions_run n s 1 0 (that_meet r (level levels 1)) (lower_stored 0)
    lower_is (suc more) (suc i) = versions_run n s (suc (suc i)) 0 (that_meet r (level levels (suc (suc i)))) (lower_stored (suc i))

    abbrev IsApart : Table → Type 0
    IsApart t = meets r t ≡ false

    before_apart : (k : ℕ) → FromTables (λ t. meets r t ≡ false) (map (record_of (suc k) 0) (ending_before r (level levels (suc k))))
    before_apart k = from_run IsApart (suc k) 0 (ending_before r (level levels (suc k))) (all_filter S (λ t. is_below t.last r.first) (level levels (suc k)) (level_stored k))
        (λ t a. apart_left r t (passed_among (λ u. is_below u.last r.first) t (level levels (suc k)) a).1)

    behind_apart : (k : ℕ) → FromTables (λ t. (meets r t ≡ false) × IsAmong t (level levels (suc k))) (map (record_of (suc k) 0) (beginning_behind r (level levels (suc k))))
    behind_apart k = from_run (λ t. (meets r t ≡ false) × IsAmong t (level levels (suc k))) (suc k) 0 (beginning_behind r (level levels (suc k))) (all_filter S (λ t. is_below r.last t.first) (level levels (suc k)) (level_stored k))
        (λ t a. let p = passed_among (λ u. is_below r.last u.first) t (level levels (suc k)) a in (apart_right r t p.1, p.0))

    pub between_apart : (tables i : ℕ) → FromTables (λ t. meets r t ≡ false) (parts_at levels i r tables).between
    between_apart zero i = λ v a. absurd a
    between_apart (suc more) zero = before_apart 0
    between_apart (suc more) (suc i) =
        from_both IsApart (map (record_of (suc i) 0) (beginning_behind r (level levels (suc i)))) (map (record_of (suc (suc i)) 0) (ending_before r (level levels (suc (suc i)))))
        (from_weaker (λ t. IsApart t × IsAmong t (level levels (suc i))) IsApart (map (record_of (suc i) 0) (beginning_behind r (level levels (suc i)))) (λ t p. p.0) (behind_apart i)) (before_apart (suc i))

    -- a table after the outputs: of their level, or of a lower one
    abbrev pub IsBehind : ℕ → Table → Type 0
    IsBehind i t = ((meets r t ≡ false) × IsAmong t (level levels (suc i))) ⊎ ((k : ℕ) × (suc i < k) × IsAmong t (level levels k))

    behind_at : (j : ℕ) → FromTables (IsBehind j) (map (record_of (suc j) 0) (beginning_behind r (level levels (suc j))) ++ records_of_levels (suc (suc j)) (drop (suc j) levels.deeper))
    behind_at j =
        from_both (IsBehind j) (map (record_of (suc j) 0) (beginning_behind r (level levels (suc j)))) (records_of_levels (suc (suc j)) (drop (suc j) levels.deeper))
        (from_weaker (λ t. IsApart t × IsAmong t (level levels (suc j))) (IsBehind j) (map (record_of (suc j) 0) (beginning_behind r (level levels (suc j)))) (λ t p. inl p) (behind_apart j))
        (from_levels (IsBehind j) (suc (suc j)) (drop (suc j) levels.deeper) (all_dropped (AllByRecursion S) (suc j) levels.deeper (all_right (AllByRecursion S) levels.runs levels.deeper stored))
        (λ t a. let l = in_dropped t (suc j) levels.deeper a in let le = l.1 in inr (suc l.0, omega (arith, le), l.2)))

    pub behind_from : (tables i : ℕ) → FromTables (IsBehind i) (parts_at levels i r tables).behind
    behind_from zero i = behind_at i
    behind_from (suc more) zero = behind_at 0
    behind_from (suc more) (suc i) = behind_at (suc i)
