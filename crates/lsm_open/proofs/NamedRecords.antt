-- The tables that were read have the manifest's records, run by run.
use Rattle.std.proofs.Common.{◌≡◌, ⊎_elim, ◌⊎◌, inl, inr, ℕ, zero, suc, ◌+◌, ◌<◌, ◌≤◌, Bool, true, false, cond, leb, List, [], ◌∷◌, ◌++◌, length, map, filter, refl, sym, ap, subst, ◌∙◌, append_assoc, arith}
use Rattle.std.specs.List.{All, AllByRecursion}
use Rattle.std.proofs.lemmas.Bool.{eq-eqb, eqb-true, ne_eqb, le-leb, lt-leb}
use Rattle.std.proofs.lemmas.List.Elements.{All-nil, All-cons, All-append, All-head, All-tail}
use Rattle.lsm_codec.proofs.Lists.{filter_step, filter_none, filter_all, all_map}
use Rattle.lsm_codec.specs.Manifests.{Contents, IsManifest}
use Rattle.lsm_codec.specs.Pairs.{Pairwise}
use Rattle.lsm_codec.specs.TableRecords.{IsTableRecord, IsOfVersion, InOrder, TablesAgree, runs_in}
use Rattle.lsm_codec.specs.declared.superblock.FormatVersion.TheVariants.{Two}
use Rattle.lsm_codec.specs.declared.table_record.TableRecord.{TableRecord}
use Rattle.lsm_levels.specs.Levels.{Levels, places, all_tables}
use Rattle.lsm_levels.specs.Tables.{Table, record_of}
use Rattle.lsm_open.specs.ToldTables.{run_place, is_in_run, run_records, records_of_runs, records_of_levels, records_of, AreNamedBy, AreRunsRead, HaveNamed}
use Rattle.std.proofs.lemmas.List.{length-append, length-map}

-- whether the run of a record is at a place or after it
abbrev pub is_from : ℕ → ℕ → TableRecord → Bool
is_from runs k t = leb k (run_place runs t.run t.level)

-- the records of the tables in the runs from a place on
abbrev pub records_from : Contents → ℕ → List TableRecord
records_from m k = filter (is_from m.runs k) m.tables

-- ---- the places of records

-- a record's run is one of level 0, or that of its level
level_place : (next runs : ℕ) (t : TableRecord) → IsTableRecord next runs t → ((t.level ≡ 0) × (t.run < runs)) ⊎ ((level : ℕ) × (t.level ≡ suc level) × (level < 4) × (t.run ≡ 0))
level_place next runs t is = by t.level refl
  where
    by : (level : ℕ) → t.level ≡ level → ((t.level ≡ 0) × (t.run < runs)) ⊎ ((level : ℕ) × (t.level ≡ suc level) × (level < 4) × (t.run ≡ 0))
    by zero e = inl (e, subst (λ (l : ℕ). t.run < runs_in runs l) e is.run)
    by (suc level) e =
        let one : runs_in runs (suc level) ≡ 1 = ap (λ (b : Bool). cond b runs 1) (ne_eqb (suc level) 0 (λ e. absurd (omega (arith, e)))) in
        let few : t.run < 1 = subst (λ (k : ℕ). t.run < k) one (subst (λ (l : ℕ). t.run < runs_in runs l) e is.run) in
        inr (level, e, omega (arith, is.level, e), omega (arith, few))

module _ (next runs : ℕ) where
  place_high : (t : TableRecord) → IsTableRecord next runs t → run_place runs t.run t.level < runs + 4
  place_high t is = ⊎_elim
      (λ h. omega (arith, ap (run_place runs t.run) h.0, h.1))
      (λ h. omega (arith, ap (run_place runs t.run) h.1, h.2))
      (level_place next runs t is)

  place_order : (t u : TableRecord) → IsTableRecord next runs t → IsTableRecord next runs u → InOrder t u → run_place runs t.run t.level ≤ run_place runs u.run u.level
  place_order t u is are order = ⊎_elim
      (λ a. ⊎_elim
      (λ b. ⊎_elim (λ lt. absurd (omega (arith, a.0, b.0, lt))) (λ same. omega (arith, ap (run_place runs t.run) a.0, ap (run_place runs u.run) b.0, same.1)) order)
      (λ b. omega (arith, ap (run_place runs t.run) a.0, ap (run_place runs u.run) b.1, a.1))
      (level_place next runs u are))
      (λ a. ⊎_elim
      (λ b. ⊎_elim (λ lt. absurd (omega (arith, a.1, b.0, lt))) (λ same. absurd (omega (arith, a.1, b.0, same.0))) order)
      (λ b. ⊎_elim (λ lt. omega (arith, ap (run_place runs t.run) a.1, ap (run_place runs u.run) b.1, a.1, b.1, lt)) (λ same. omega (arith, ap (run_place runs t.run) a.1, ap (run_place runs u.run) b.1, a.1, b.1, same.0)) order)
      (level_place next runs u are))
      (level_place next runs t is)

  -- no place of the others is before a record's
  abbrev AreBehind : TableRecord → List TableRecord → Type 0
  AreBehind t ts = AllByRecursion (λ u. run_place runs t.run t.level ≤ run_place runs u.run u.level) ts

  behind : (t : TableRecord) (ts : List TableRecord) → IsTableRecord next runs t → All (IsTableRecord next runs) ts → All (TablesAgree t) ts → AreBehind t ts
  behind t [] is each agree = tt
  behind t (u ∷ ts) is each agree = (
    place_order t u is (All-head (IsTableRecord next runs) u ts each) (All-head (TablesAgree t) u ts agree).order,
    behind t ts is (All-tail (IsTableRecord next runs) u ts each) (All-tail (TablesAgree t) u ts agree),
  )

  order_three : (a b : ℕ) → (b ≡ a) ⊎ ((a < b) ⊎ (b < a))
  order_three zero zero = inl refl
  order_three zero (suc b) = inr (inl (omega arith))
  order_three (suc a) zero = inr (inr (omega arith))
  order_three (suc a) (suc b) = ⊎_elim (λ h. inl (ap suc h)) (⊎_elim (λ h. inr (inl (omega (arith, h)))) (λ h. inr (inr (omega (arith, h))))) (order_three a b)

  none_at : (k : ℕ) (t : TableRecord) (ts : List TableRecord) → k < run_place runs t.run t.level → AreBehind t ts → filter (is_in_run runs k) ts ≡ []
  none_at k t ts lt are = filter_none (is_in_run runs k) ts (all_map (λ u le. ne_eqb (run_place runs u.run u.level) k (λ e. absurd (omega (arith, e, lt, le)))) ts are)

  -- the records from a place on are those of its run, and then those after it
  split_from : (k : ℕ) (ts : List TableRecord) → All (IsTableRecord next runs) ts → Pairwise TablesAgree ts → filter (is_from runs k) ts ≡ filter (is_in_run runs k) ts ++ filter (is_from runs (suc k)) ts
  split_from k [] each agree = refl
  split_from k (t ∷ ts) each agree =
      let more = split_from k ts (All-tail (IsTableRecord next runs) t ts each) agree.1 in
      ⊎_elim (here more) (⊎_elim (after more) (before more)) (order_three k place)
    where
      place : ℕ
      place = run_place runs t.run t.level

      More : Type 0
      More = filter (is_from runs k) ts ≡ filter (is_in_run runs k) ts ++ filter (is_from runs (suc k)) ts

      Split : Type 0
      Split = filter (is_from runs k) (t ∷ ts) ≡ filter (is_in_run runs k) (t ∷ ts) ++ filter (is_from runs (suc k)) (t ∷ ts)

      joined : (b c d : Bool) → is_from runs k t ≡ b → is_in_run runs k t ≡ c → is_from runs (suc k) t ≡ d
          → cond b (t ∷ filter (is_from runs k) ts) (filter (is_from runs k) ts) ≡ cond c (t ∷ filter (is_in_run runs k) ts) (filter (is_in_run runs k) ts) ++ cond d (t ∷ filter (is_from runs (suc k)) ts) (filter (is_from runs (suc k)) ts)
          → Split
      joined b c d from at next same =
          filter_step (is_from runs k) t ts b from ∙ same
          ∙ ap (λ (l : List TableRecord). l ++ cond d (t ∷ filter (is_from runs (suc k)) ts) (filter (is_from runs (suc k)) ts)) (sym (filter_step (is_in_run runs k) t ts c at))
          ∙ ap (λ (l : List TableRecord). filter (is_in_run runs k) (t ∷ ts) ++ l) (sym (filter_step (is_from runs (suc k)) t ts d next))

      here : More → place ≡ k → Split
      here more e = joined true true false (le-leb k place (omega (arith, e))) (eq-eqb place k e) (lt-leb (suc k) place (omega (arith, e))) (ap (λ (l : List TableRecord). t ∷ l) more)

      after : More → k < place → Split
      after more lt =
          let none : filter (is_in_run runs k) ts ≡ [] = none_at k t ts lt (behind t ts (All-head (IsTableRecord next runs) t ts each) (All-tail (IsTableRecord next runs) t ts each) agree.0) in
          joined true false true (le-leb k place (omega (arith, lt))) (ne_eqb place k (λ e. absurd (omega (arith, e, lt)))) (le-leb (suc k) place (omega (arith, lt)))
          (ap (λ (l : List TableRecord). t ∷ l) (more ∙ ap (λ (l : List TableRecord). l ++ filter (is_from runs (suc k)) ts) none) ∙ sym (ap (λ (l : List TableRecord). l ++ t ∷ filter (is_from runs (suc k)) ts) none))

      before : More → place < k → Split
      before more lt = joined false false false (lt-leb k place lt) (ne_eqb place k (λ e. absurd (omega (arith, e, lt)))) (lt-leb (suc k) place (omega (arith, lt))) more

  from_last : (ts : List TableRecord) → All (IsTableRecord next runs) ts → filter (is_from runs (runs + 4)) ts ≡ []
  from_last ts each = filter_none (is_from runs (runs + 4)) ts (low ts each)
    where
      low : (us : List TableRecord) → All (IsTableRecord next runs) us → AllByRecursion (λ u. is_from runs (runs + 4) u ≡ false) us
      low [] are = tt
      low (u ∷ us) are = (lt-leb (runs + 4) (run_place runs u.run u.level) (place_high u (All-head (IsTableRecord next runs) u us are)), low us (All-tail (IsTableRecord next runs) u us are))

-- the records from a place on, of a manifest
pub run_and_behind : (m : Contents) (k : ℕ) → IsManifest m → records_from m k ≡ run_records m k ++ records_from m (suc k)
run_and_behind m k is = split_from m.next_table m.runs k m.tables is.tables.each is.tables.agree

pub none_behind : (m : Contents) → IsManifest m → records_from m (m.runs + 4) ≡ []
none_behind m is = from_last m.next_table m.runs m.tables is.tables.each

pub all_from_first : (m : Contents) → records_from m 0 ≡ m.tables
all_from_first m = filter_all (is_from m.runs 0) m.tables (each m.tables)
  where
    each : (ts : List TableRecord) → AllByRecursion (λ t. is_from m.runs 0 t ≡ true) ts
    each [] = tt
    each (t ∷ ts) = (le-leb 0 (run_place m.runs t.run t.level) (omega arith), each ts)

-- ---- the records of tables in runs

-- tables of records that are all of one level and run have just these records
rerecorded : (level run : ℕ) (ts : List TableRecord) (us : List Table) → AllByRecursion (λ t. (t.level ≡ level) × (t.run ≡ run)) ts → AreNamedBy ts us → map (record_of level run) us ≡ ts
rerecorded level run [] [] same named = refl
rerecorded level run [] (u ∷ us) same named = absurd named
rerecorded level run (t ∷ ts) [] same named = absurd named
rerecorded level run (t ∷ ts) (u ∷ us) same named =
    ap (λ (l : ℕ). record_of l run u ∷ map (record_of level run) us) (sym same.0.0)
    ∙ ap (λ (r : ℕ). record_of t.level r u ∷ map (record_of level run) us) (sym same.0.1)
    ∙ ap (λ (x : TableRecord). x ∷ map (record_of level run) us) named.0.listed
    ∙ ap (λ (l : List TableRecord). t ∷ l) (rerecorded level run ts us same.1 named.1)

-- records of which a test passes alone those with a property
passed_have : (P : TableRecord → Type 0) (next runs : ℕ) (p : TableRecord → Bool) (ts : List TableRecord) → ((t : TableRecord) → IsTableRecord next runs t → p t ≡ true → P t) → All (IsTableRecord next runs) ts → AllByRecursion P (filter p ts)
passed_have P next runs p [] has each = tt
passed_have P next runs p (t ∷ ts) has each = by (passed_have P next runs p ts has (All-tail (IsTableRecord next runs) t ts each)) (p t) refl
  where
    by : AllByRecursion P (filter p ts) → (b : Bool) → p t ≡ b → AllByRecursion P (filter p (t ∷ ts))
    by more true passed = subst (AllByRecursion P) (sym (filter_step p t ts true passed)) (has t (All-head (IsTableRecord next runs) t ts each) passed, more)
    by more false passed = subst (AllByRecursion P) (sym (filter_step p t ts false passed)) more

module _ (m : Contents) (is : IsManifest m) where
  newer_run : (run : ℕ) → run < m.runs → AllByRecursion (λ t. (t.level ≡ 0) × (t.run ≡ run)) (run_records m run)
  newer_run run lt = passed_have (λ t. (t.level ≡ 0) × (t.run ≡ run)) m.next_table m.runs (is_in_run m.runs run) m.tables one is.tables.each
    where
      one : (t : TableRecord) → IsTableRecord m.next_table m.runs t → is_in_run m.runs run t ≡ true → (t.level ≡ 0) × (t.run ≡ run)
      one t fits at = ⊎_elim
          (λ h. (h.0, sym (ap (run_place m.runs t.run) h.0) ∙ eqb-true (run_place m.runs t.run t.level) run at))
          (λ h. absurd (omega (arith, lt, ap (run_place m.runs t.run) h.1, eqb-true (run_place m.runs t.run t.level) run at)))
          (level_place m.next_table m.runs t fits)

  deeper_run : (level : ℕ) → AllByRecursion (λ t. (t.level ≡ suc level) × (t.run ≡ 0)) (run_records m (m.runs + level))
  deeper_run level = passed_have (λ t. (t.level ≡ suc level) × (t.run ≡ 0)) m.next_table m.runs (is_in_run m.runs (m.runs + level)) m.tables one is.tables.each
    where
      one : (t : TableRecord) → IsTableRecord m.next_table m.runs t → is_in_run m.runs (m.runs + level) t ≡ true → (t.level ≡ suc level) × (t.run ≡ 0)
      one t fits at = ⊎_elim
          (λ h. absurd (omega (arith, h.1, ap (run_place m.runs t.run) h.0, eqb-true (run_place m.runs t.run t.level) (m.runs + level) at)))
          (λ h. (omega (arith, h.1, ap (run_place m.runs t.run) h.1, eqb-true (run_place m.runs t.run t.level) (m.runs + level) at), h.3))
          (level_place m.next_table m.runs t fits)

  module _ (n : ℕ) (tells : Bool) (S : List (List ℕ)) where
    deeper_named : (level : ℕ) (rest : List (List Table)) → level + length rest ≡ 4 → AreRunsRead n tells S m (m.runs + level) rest → records_of_levels (suc level) rest ≡ records_from m (m.runs + level)
    deeper_named level [] four read =
        let last : m.runs + 4 ≡ m.runs + level = omega (arith, four) in
        sym (none_behind m is) ∙ ap (records_from m) last
    deeper_named level (us ∷ rest) four read =
        let next : suc (m.runs + level) ≡ m.runs + suc level = omega arith in
        ap (λ (l : List TableRecord). l ++ records_of_levels (suc (suc level)) rest) (rerecorded (suc level) 0 (run_records m (m.runs + level)) us (deeper_run level) read.0.named)
        ∙ ap (λ (l : List TableRecord). run_records m (m.runs + level) ++ l) (deeper_named (suc level) rest (omega (arith, four)) (subst (λ (k : ℕ). AreRunsRead n tells S m k rest) next read.1) ∙ ap (records_from m) (sym next))
        ∙ sym (run_and_behind m (m.runs + level) is)

    all_named : (run : ℕ) (newer deeper : List (List Table)) → run + length newer ≡ m.runs → length deeper ≡ 4 → AreRunsRead n tells S m run (newer ++ deeper) → records_of_runs run newer ++ records_of_levels 1 deeper ≡ records_from m run
    all_named run [] deeper runs four read =
        let here : run ≡ m.runs + 0 = omega (arith, runs) in
        deeper_named 0 deeper (omega (arith, four)) (subst (λ (k : ℕ). AreRunsRead n tells S m k deeper) here read) ∙ ap (records_from m) (sym here)
    all_named run (us ∷ rest) deeper runs four read =
        let mine : map (record_of 0 run) us ≡ run_records m run = rerecorded 0 run (run_records m run) us (newer_run run (omega (arith, runs))) read.0.named in
        append_assoc (map (record_of 0 run) us) (records_of_runs (suc run) rest) (records_of_levels 1 deeper)
        ∙ ap (λ (l : List TableRecord). l ++ (records_of_runs (suc run) rest ++ records_of_levels 1 deeper)) mine
        ∙ ap (λ (l : List TableRecord). run_records m run ++ l) (all_named (suc run) rest deeper (omega (arith, runs)) four read.1)
        ∙ sym (run_and_behind m run is)

    -- levels that were read have just the tables that the manifest names
    pub read_have_named : (levels : Levels) → length levels.runs ≡ m.runs → length levels.deeper ≡ 4 → AreRunsRead n tells S m 0 (places levels) → HaveNamed m levels
    read_have_named levels runs four read = record {
      runs = runs;
      records = all_named 0 levels.runs levels.deeper (omega (arith, runs)) four read ∙ all_from_first m;
    }

-- ---- records of levels tell the deletes

run_told : (level run : ℕ) (us : List Table) → All (IsOfVersion Two) (map (record_of level run) us)
run_told level run [] = All-nil (IsOfVersion Two)
run_told level run (u ∷ us) = All-cons (IsOfVersion Two) (record_of level run u) (map (record_of level run) us) refl (run_told level run us)

runs_told : (run : ℕ) (runs : List (List Table)) → All (IsOfVersion Two) (records_of_runs run runs)
runs_told run [] = All-nil (IsOfVersion Two)
runs_told run (us ∷ rest) = All-append (IsOfVersion Two) (map (record_of 0 run) us) (records_of_runs (suc run) rest) (run_told 0 run us) (runs_told (suc run) rest)

levels_told : (level : ℕ) (runs : List (List Table)) → All (IsOfVersion Two) (records_of_levels level runs)
levels_told level [] = All-nil (IsOfVersion Two)
levels_told level (us ∷ rest) = All-append (IsOfVersion Two) (map (record_of level 0) us) (records_of_levels (suc level) rest) (run_told level 0 us) (levels_told (suc level) rest)

-- a manifest of the tables in levels is one of version 2
pub records_told : (levels : Levels) → All (IsOfVersion Two) (records_of levels)
records_told levels = All-append (IsOfVersion Two) (records_of_runs 0 levels.runs) (records_of_levels 1 levels.deeper) (runs_told 0 levels.runs) (levels_told 1 levels.deeper)

-- ---- how many records there are

pub counted_levels : (k : ℕ) (xs : List (List Table)) → length (records_of_levels k xs) ≡ length (all_tables xs)
counted_levels k [] = refl
counted_levels k (x ∷ xs) = omega (arith, length-append (map (record_of k 0) x) (records_of_levels (suc k) xs), length-map x (record_of k 0), length-append x (all_tables xs), counted_levels (suc k) xs)

pub counted_runs : (k : ℕ) (xs deeper : List (List Table)) → length (records_of_runs k xs ++ records_of_levels 1 deeper) ≡ length (all_tables (xs ++ deeper))
counted_runs k [] deeper = counted_levels 1 deeper
counted_runs k (x ∷ xs) deeper =
    omega (
      arith,
      length-append (map (record_of 0 k) x ++ records_of_runs (suc k) xs) (records_of_levels 1 deeper),
      length-append (map (record_of 0 k) x) (records_of_runs (suc k) xs),
      length-append (records_of_runs (suc k) xs) (records_of_levels 1 deeper),
      length-map x (record_of 0 k),
      length-append x (all_tables (xs ++ deeper)),
      counted_runs (suc k) xs deeper,
    )
