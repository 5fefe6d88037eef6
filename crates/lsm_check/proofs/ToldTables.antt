-- The tables that footer, index and filter tell of a manifest's records.
use Rattle.std.proofs.Common.{◌≡◌, ℕ, zero, suc, ◌+◌, ◌*◌, ◌≤◌, List, [], ◌∷◌, ◌++◌, length, map, take, drop, Option, Some, None, refl, sym, ap, subst, ◌∙◌, append_assoc, arith}
use Rattle.std.specs.Prelude.{option_map, slice_index_or}
use Rattle.std.specs.List.{AllByRecursion, flat_map}
use Rattle.std.proofs.lemmas.List.{append-nil, take-append-drop}
use Rattle.std.proofs.lemmas.Option.{same_Some, cond_some}
use Rattle.lsm_codec.specs.Manifests.{Contents, IsManifest}
use Rattle.lsm_codec.specs.Reading.{◌>>=◌}
use Rattle.lsm_codec.specs.TableRecords.{extent_blocks}
use Rattle.lsm_codec.specs.Versions.{Version}
use Rattle.lsm_codec.specs.declared.table_record.TableRecord.{TableRecord}
use Rattle.lsm_codec.proofs.Readers.{bind_some}
use Rattle.lsm_levels.specs.Asking.{sector_of}
use Rattle.lsm_levels.specs.Levels.{Levels, all_tables, places}
use Rattle.lsm_levels.specs.Stored.{blocks_from}
use Rattle.lsm_levels.specs.Tables.{Table, table_at, is_run, versions_of}
use Rattle.lsm_open.specs.Tables.{first_data, extent_start, blocks_at, versions_if, versions_at, table_versions}
use Rattle.lsm_open.specs.ToldTables.{told_table, told_tables, run_if, run_records, told_run, told_runs, told_levels, levels_of}
use Rattle.lsm_open.proofs.BlockReads.{extent_is, some_blocks}
use Rattle.lsm_open.proofs.NamedRecords.{records_from, run_and_behind, none_behind, all_from_first}
use Rattle.lsm_open.proofs.ToldRuns.{told_with_deletes}
use Rattle.lsm_table.specs.Outlines.{Outline, IsRecordOf, outline_of}
use Rattle.lsm_table.specs.Stored.{table_of, table_in, outline_at}
use Rattle.lsm_table.proofs.Outlines.{outline_laws_hold}
use Rattle.lsm_check.specs.Sound.{spelled_versions, IsTold}

abbrev Sectors : Type 0
Sectors = List (List ℕ)

-- what was mapped to give a value
map_some : {A B : Type 0} (f : A → B) (o : Option A) (y : B) → option_map f o ≡ Some y → (x : A) × (o ≡ Some x) × (f x ≡ y)
map_some f (Some x) y e = (x, refl, same_Some (f x) y e)
map_some f None y e = absurd cc

-- ---- tables one after the other

given_again : (o : Option (List Table)) → o ≡ (o >>= λ (more : List Table). Some more)
given_again None = refl
given_again (Some more) = refl

given_behind : (o : Option Table) (p q : Option (List Table))
    → (o >>= λ (x : Table). (p >>= λ (us : List Table). q >>= λ (more : List Table). Some (us ++ more)) >>= λ (us : List Table). Some (x ∷ us))
    ≡ ((o >>= λ (x : Table). p >>= λ (us : List Table). Some (x ∷ us)) >>= λ (us : List Table). q >>= λ (more : List Table). Some (us ++ more))
given_behind None p q = refl
given_behind (Some x) None q = refl
given_behind (Some x) (Some us) None = refl
given_behind (Some x) (Some us) (Some more) = refl

regrouped : (before run : List Table) (o : Option (List Table)) → ((o >>= λ (more : List Table). Some (run ++ more)) >>= λ (more : List Table). Some (before ++ more)) ≡ (o >>= λ (more : List Table). Some ((before ++ run) ++ more))
regrouped before run None = refl
regrouped before run (Some more) = ap (λ (l : List Table). Some l) (sym (append_assoc before run more))

-- the tables of runs, and of one more
one_run_more : (before : List (List Table)) (run : List Table) → all_tables before ++ run ≡ all_tables (before ++ run ∷ [])
one_run_more [] run = sym (append-nil run)
one_run_more (r ∷ before) run = append_assoc r (all_tables before) run ∙ ap (λ (l : List Table). r ++ l) (one_run_more before run)

module _ (n : ℕ) (s : Sectors) where
  -- ---- all tables of a manifest

  tables_append : (xs ys : List TableRecord) → told_tables n s (xs ++ ys) ≡ (told_tables n s xs >>= λ (us : List Table). told_tables n s ys >>= λ (more : List Table). Some (us ++ more))
  tables_append [] ys = given_again (told_tables n s ys)
  tables_append (x ∷ xs) ys =
      ap (λ (o : Option (List Table)). told_table n s x >>= λ (u : Table). o >>= λ (us : List Table). Some (u ∷ us)) (tables_append xs ys)
      ∙ given_behind (told_table n s x) (told_tables n s xs) (told_tables n s ys)

  -- a run that is told is of the tables that are
  run_tables : (m : Contents) (k : ℕ) (run : List Table) → told_run n s m k ≡ Some run → told_tables n s (run_records m k) ≡ Some run
  run_tables m k run told =
      let found = bind_some (told_tables n s (run_records m k)) run_if run told in
      found.1 ∙ ap (λ (l : List Table). Some l) (cond_some (is_run found.0) found.0 run found.2).1

  module _ (m : Contents) (is : IsManifest m) where
    -- the tables of the first runs, and of those after them
    abbrev Splits : ℕ → List (List Table) → Type 0
    Splits k runs = told_tables n s m.tables ≡ (told_tables n s (records_from m k) >>= λ (more : List Table). Some (all_tables runs ++ more))

    one_run_told : (k : ℕ) (before : List (List Table)) (run : List Table) → Splits k before → told_run n s m k ≡ Some run → Splits (suc k) (before ++ run ∷ [])
    one_run_told k before run splits told =
        let behind = told_tables n s (records_from m (suc k)) in
        splits
        ∙ ap (λ (o : Option (List Table)). o >>= λ (more : List Table). Some (all_tables before ++ more)) (
        ap (told_tables n s) (run_and_behind m k is) ∙ tables_append (run_records m k) (records_from m (suc k))
        ∙ ap (λ (o : Option (List Table)). o >>= λ (us : List Table). behind >>= λ (more : List Table). Some (us ++ more)) (run_tables m k run told))
        ∙ regrouped (all_tables before) run behind
        ∙ ap (λ (l : List Table). behind >>= λ (more : List Table). Some (l ++ more)) (one_run_more before run)

    runs_split : (k : ℕ) (runs : List (List Table)) → told_runs n s m k ≡ Some runs → Splits k runs
    runs_split zero runs told = subst (Splits 0) (same_Some [] runs told) (given_again (told_tables n s m.tables) ∙ ap (λ (ts : List TableRecord). told_tables n s ts >>= λ (more : List Table). Some more) (sym (all_from_first m)))
    runs_split (suc k) runs told =
        let before = bind_some (told_runs n s m k) (λ (b : List (List Table)). told_run n s m k >>= λ (run : List Table). Some (b ++ run ∷ [])) runs told in
        let one = bind_some (told_run n s m k) (λ (run : List Table). Some (before.0 ++ run ∷ [])) runs before.2 in
        subst (Splits (suc k)) (same_Some (before.0 ++ one.0 ∷ []) runs one.2) (one_run_told k before.0 one.0 (runs_split k before.0 before.1) one.1)

    levels_split : (levels : Levels) → told_levels n s m ≡ Some levels → told_tables n s m.tables ≡ Some (all_tables (places levels))
    levels_split levels told =
        let found = bind_some (told_runs n s m (m.runs + 4)) (λ (all : List (List Table)). Some (levels_of m.runs all)) levels told in
        let runs : List (List Table) = found.0 in
        let all : runs ≡ places levels = sym (take-append-drop m.runs runs) ∙ ap places (same_Some (levels_of m.runs runs) levels found.2) in
        runs_split (m.runs + 4) runs found.1
        ∙ ap (λ (ts : List TableRecord). told_tables n s ts >>= λ (more : List Table). Some (all_tables runs ++ more)) (none_behind m is)
        ∙ ap (λ (l : List Table). Some l) (append-nil (all_tables runs) ∙ ap all_tables all)

-- Where the levels of a manifest's tables are told, so are the tables, run by run.
pub all_told : (n : ℕ) (s : List (List ℕ)) (m : Contents) (levels : Levels) → IsManifest m → told_levels n s m ≡ Some levels → told_tables n s m.tables ≡ Some (all_tables (places levels))
all_told n s m levels is told = levels_split n s m is levels told

-- ---- one table

recorded_by : (t : TableRecord) (footer index filter : List ℕ) (o : Outline) → outline_of t footer index filter ≡ Some o → IsRecordOf t o
recorded_by t footer index filter o told = ((outline_laws_hold.exact t footer index filter o).0 told).1.by_record

outline_recorded : (t : TableRecord) (blocks : Sectors) (o : Outline) → outline_at t blocks ≡ Some o → IsRecordOf t o
outline_recorded t blocks o told =
    recorded_by t (slice_index_or blocks (t.data_blocks + t.index_blocks + 1) []) (flat_map (λ b. b) (take t.index_blocks (drop (t.data_blocks + 1) blocks))) (slice_index_or blocks t.data_blocks []) o told

module _ (n : ℕ) (s : Sectors) where
  -- the table of a record with this outline and these deletes
  abbrev its_table : TableRecord → ℕ → Outline → Table
  its_table t deletes o = table_at o t.first_block deletes (versions_at n s t)

  -- A table is told of a record: it has the outline that is told, whose record that is, the deletes that the record tells, and
  -- its versions.
  pub record IsOneTold (t : TableRecord) (u : Table) : Type 0 where
    pub told : told_table n s t ≡ Some u
    pub outline : outline_at t (blocks_at n s t) ≡ Some u.outline
    pub recorded : IsRecordOf t u.outline
    pub tells : t.deletes ≡ Some u.deletes
    pub is_at : u ≡ table_at u.outline t.first_block u.deletes (versions_at n s t)

  with_outline : (t : TableRecord) (deletes : ℕ) (o : Outline) → t.deletes ≡ Some deletes → outline_at t (blocks_at n s t) ≡ Some o → IsOneTold t (its_table t deletes o)
  with_outline t deletes o tells e = record {
    told = told_with_deletes n s t deletes (versions_at n s t) tells ∙ ap (option_map (its_table t deletes)) e;
    outline = e;
    recorded = outline_recorded t (blocks_at n s t) o e;
    tells = tells;
    is_at = refl;
  }

  one_is_told : (t : TableRecord) (u : Table) → told_table n s t ≡ Some u → IsOneTold t u
  one_is_told t u told =
      let tells = bind_some t.deletes (λ (deletes : ℕ). option_map (its_table t deletes) (outline_at t (blocks_at n s t))) u told in
      let found = map_some (its_table t tells.0) (outline_at t (blocks_at n s t)) u tells.2 in
      subst (IsOneTold t) found.2 (with_outline t tells.0 found.0 tells.1 found.1)

  -- its data blocks are those of the record's extent
  at_record : (t : TableRecord) (deletes : ℕ) (o : Outline) → IsRecordOf t o → table_of (blocks_from s (sector_of (first_data n) (its_table t deletes o) 0) (length o.edges)) ≡ table_in t.data_blocks (blocks_at n s t)
  at_record t deletes o recorded =
      ap (λ (k : ℕ). table_of (blocks_from s k (length o.edges))) at
      ∙ ap (λ (k : ℕ). table_of (blocks_from s (extent_start n t + 8 * 0) k)) (sym recorded.data_blocks)
      ∙ ap table_of (sym (some_blocks s (extent_start n t) (extent_blocks t) 0 t.data_blocks few))
      ∙ ap (λ (bs : Sectors). table_of (take t.data_blocks bs)) (sym (extent_is n s t))
    where
      few : 0 + t.data_blocks ≤ extent_blocks t
      few = omega arith

      at : sector_of (first_data n) (its_table t deletes o) 0 ≡ extent_start n t + 8 * 0
      at = omega arith

  pub same_blocks : (t : TableRecord) (u : Table) → IsOneTold t u → table_of (blocks_from s (sector_of (first_data n) u 0) (length u.outline.edges)) ≡ table_in t.data_blocks (blocks_at n s t)
  same_blocks t u one = ap (λ (x : Table). table_of (blocks_from s (sector_of (first_data n) x 0) (length u.outline.edges))) one.is_at ∙ at_record t u.deletes u.outline one.recorded

  pub told_versions : (t : TableRecord) (u : Table) → IsOneTold t u → u.versions ≡ versions_at n s t
  told_versions t u one = ap (λ (x : Table). x.versions) one.is_at

  -- and they spell its versions
  told_spelled : (t : TableRecord) (u : Table) → IsOneTold t u → IsTold s (first_data n) u
  told_spelled t u one =
      let start : u.start ≡ t.first_block = ap (λ (x : Table). x.start) one.is_at in
      let spelled : spelled_versions s (first_data n) u ≡ versions_at n s t = ap versions_if (same_blocks t u one) in
      one.is_at ∙ ap (λ (k : ℕ). table_at u.outline k u.deletes (versions_at n s t)) (sym start) ∙ ap (λ (vs : List Version). table_at u.outline u.start u.deletes vs) (sym spelled)

  -- ---- each table

  -- tables are those told of these records, one after the other
  abbrev pub AreEachTold : List TableRecord → List Table → Type 0
  AreEachTold [] [] = Unit {0}
  AreEachTold [] (u ∷ us) = ⊥
  AreEachTold (t ∷ ts) [] = ⊥
  AreEachTold (t ∷ ts) (u ∷ us) = IsOneTold t u × AreEachTold ts us

  pub each_told : (ts : List TableRecord) (us : List Table) → told_tables n s ts ≡ Some us → AreEachTold ts us
  each_told [] us told = subst (AreEachTold []) (same_Some [] us told) tt
  each_told (t ∷ ts) us told =
      let one = bind_some (told_table n s t) (λ (x : Table). told_tables n s ts >>= λ (xs : List Table). Some (x ∷ xs)) us told in
      let more = bind_some (told_tables n s ts) (λ (xs : List Table). Some (one.0 ∷ xs)) us one.2 in
      subst (AreEachTold (t ∷ ts)) (same_Some (one.0 ∷ more.0) us more.2) (one_is_told t one.0 one.1, each_told ts more.0 more.1)

  each_spelled : (ts : List TableRecord) (us : List Table) → AreEachTold ts us → AllByRecursion (IsTold s (first_data n)) us
  each_spelled [] [] each = tt
  each_spelled [] (u ∷ us) each = absurd each
  each_spelled (t ∷ ts) [] each = absurd each
  each_spelled (t ∷ ts) (u ∷ us) each = (told_spelled t u each.0, each_spelled ts us each.1)

  each_counted : (ts : List TableRecord) (us : List Table) → AreEachTold ts us → versions_of us ≡ table_versions n s ts
  each_counted [] [] each = refl
  each_counted [] (u ∷ us) each = absurd each
  each_counted (t ∷ ts) [] each = absurd each
  each_counted (t ∷ ts) (u ∷ us) each =
      ap (λ (vs : List Version). vs ++ versions_of us) (told_versions t u each.0) ∙ ap (λ (vs : List Version). versions_at n s t ++ vs) (each_counted ts us each.1)

  -- the versions of each are those of its record
  pub same_places : (ts : List TableRecord) (us : List Table) → AreEachTold ts us → map (λ (u : Table). u.versions) us ≡ map (versions_at n s) ts
  same_places [] [] each = refl
  same_places [] (u ∷ us) each = absurd each
  same_places (t ∷ ts) [] each = absurd each
  same_places (t ∷ ts) (u ∷ us) each =
      ap (λ (vs : List Version). vs ∷ map (λ (x : Table). x.versions) us) (told_versions t u each.0) ∙ ap (λ (l : List (List Version)). versions_at n s t ∷ l) (same_places ts us each.1)

-- Tables that are told are those of their outlines, with the versions that their data blocks spell.
pub are_told : (n : ℕ) (s : List (List ℕ)) (ts : List TableRecord) (tables : List Table) → told_tables n s ts ≡ Some tables → AllByRecursion (IsTold s (first_data n)) tables
are_told n s ts tables told = each_spelled n s ts tables (each_told n s ts tables told)

-- The versions of the tables in levels are those of the manifest's tables.
pub entries_counted : (n : ℕ) (s : List (List ℕ)) (m : Contents) (levels : Levels) → told_tables n s m.tables ≡ Some (all_tables (places levels)) → versions_of (all_tables (places levels)) ≡ table_versions n s m.tables
entries_counted n s m levels told = each_counted n s m.tables (all_tables (places levels)) (each_told n s m.tables (all_tables (places levels)) told)
