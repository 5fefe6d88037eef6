-- Tables and runs that are told, one after the other.
use Rattle.std.proofs.Common.{◌≡◌, ⊎_elim, ◌⊎◌, inl, inr, ℕ, zero, suc, ◌+◌, ◌<◌, ◌≤◌, Bool, true, false, List, [], ◌∷◌, ◌++◌, length, drop, Option, Some, None, refl, sym, ap, ◌∙◌, append_assoc, arith}
use Rattle.std.specs.Prelude.{option_map, if◌then◌else◌}
use Rattle.std.proofs.lemmas.List.{append-nil}
use Rattle.lsm_codec.specs.Indexes.{index_count}
use Rattle.lsm_codec.specs.Manifests.{Contents}
use Rattle.lsm_codec.specs.Reading.{◌>>=◌}
use Rattle.lsm_codec.specs.Versions.{Version}
use Rattle.lsm_codec.specs.declared.table_record.TableRecord.{TableRecord}
use Rattle.lsm_device.specs.declared.refusal.Refusal.{Refusal}
use Rattle.lsm_device.specs.declared.refusal.Refusal.TheVariants.{NoMemory, BadTable}
use Rattle.lsm_levels.specs.Tables.{Table, IsRun, is_run, table_at}
use Rattle.lsm_levels.proofs.RunTests.{run_tested, tested_run}
use Rattle.lsm_open.specs.Tables.{blocks_at}
use Rattle.lsm_open.specs.ToldTables.{told_with, told_table, told_tables, run_if, told_run, told_runs, told_levels, levels_of, IsRefusedFor, IsNamedBy, AreNamedBy}
use Rattle.lsm_table.specs.Outlines.{Outline, IsRecordOf}
use Rattle.lsm_table.specs.Stored.{outline_at}

-- ---- one table

pub named_by : (t : TableRecord) (o : Outline) (deletes : ℕ) (versions : List Version) → t.deletes ≡ Some deletes → IsRecordOf t o → IsNamedBy t (table_at o t.first_block deletes versions)
named_by t o deletes versions told is = record {
  listed =
      ap (λ (k : ℕ). let r : TableRecord = record { number = k; level = t.level; run = t.run; first_block = t.first_block; data_blocks = length o.edges; index_blocks = index_count o.edges; entries = o.entries; deletes = Some deletes } in r) (sym is.number)
      ∙ ap (λ (k : ℕ). let r : TableRecord = record { number = t.number; level = t.level; run = t.run; first_block = t.first_block; data_blocks = k; index_blocks = index_count o.edges; entries = o.entries; deletes = Some deletes } in r) (sym is.data_blocks)
      ∙ ap (λ (k : ℕ). let r : TableRecord = record { number = t.number; level = t.level; run = t.run; first_block = t.first_block; data_blocks = t.data_blocks; index_blocks = k; entries = o.entries; deletes = Some deletes } in r) (sym is.index_blocks)
      ∙ ap (λ (k : ℕ). let r : TableRecord = record { number = t.number; level = t.level; run = t.run; first_block = t.first_block; data_blocks = t.data_blocks; index_blocks = t.index_blocks; entries = k; deletes = Some deletes } in r) (sym is.entries)
      ∙ ap (λ (d : Option ℕ). let r : TableRecord = record t { deletes = d } in r) (sym told);
  outlined = refl;
}

-- a table that can't be opened is refused so
pub not_opened : {X Y : Type 0} (told : Option X) (f : X → Y) (e : Refusal) → (e ≡ NoMemory) ⊎ ((e ≡ BadTable) × (told ≡ None)) → IsRefusedFor (option_map f told) e
not_opened told f e = ⊎_elim (λ h. inr (inl h)) (λ h. inl (h.0, ap (option_map f) h.1))

-- a record that tells its deletes
pub told_with_deletes : (n : ℕ) (sectors : List (List ℕ)) (t : TableRecord) (deletes : ℕ) (versions : List Version) → t.deletes ≡ Some deletes
    → told_with versions n sectors t ≡ option_map (λ o. table_at o t.first_block deletes versions) (outline_at t (blocks_at n sectors t))
told_with_deletes n sectors t deletes versions told =
    ap (λ (o : Option ℕ). o >>= λ d. option_map (λ o. table_at o t.first_block d versions) (outline_at t (blocks_at n sectors t))) told

-- and one that doesn't is not told
pub told_without_deletes : (n : ℕ) (sectors : List (List ℕ)) (t : TableRecord) (versions : List Version) → t.deletes ≡ None → told_with versions n sectors t ≡ None
told_without_deletes n sectors t versions told =
    ap (λ (o : Option ℕ). o >>= λ d. option_map (λ o. table_at o t.first_block d versions) (outline_at t (blocks_at n sectors t))) told

-- ---- tables one after the other

module _ (n : ℕ) (sectors : List (List ℕ)) where
  regroup : (items : List Table) (x : Table) (o : Option (List Table)) → ((o >>= λ tables. Some (x ∷ tables)) >>= λ more. Some (items ++ more)) ≡ (o >>= λ more. Some ((items ++ x ∷ []) ++ more))
  regroup items x None = refl
  regroup items x (Some more) = ap (λ (l : List Table). Some l) (sym (append_assoc items (x ∷ []) more))

  -- one table more is told
  pub one_told : (items : List Table) (t : TableRecord) (x : Table) (rest : List TableRecord) → told_table n sectors t ≡ Some x
      → (told_tables n sectors (t ∷ rest) >>= λ (more : List Table). Some (items ++ more)) ≡ (told_tables n sectors rest >>= λ (more : List Table). Some ((items ++ x ∷ []) ++ more))
  one_told items t x rest is =
      ap (λ (o : Option Table). (o >>= λ (table : Table). told_tables n sectors rest >>= λ (tables : List Table). Some (table ∷ tables)) >>= λ (more : List Table). Some (items ++ more)) is
      ∙ regroup items x (told_tables n sectors rest)

  -- one that is not told
  pub none_told : (items : List Table) (t : TableRecord) (rest : List TableRecord) → told_table n sectors t ≡ None
      → (told_tables n sectors (t ∷ rest) >>= λ (more : List Table). Some (items ++ more)) ≡ None
  none_told items t rest is =
      ap (λ (o : Option Table). (o >>= λ (table : Table). told_tables n sectors rest >>= λ (tables : List Table). Some (table ∷ tables)) >>= λ (more : List Table). Some (items ++ more)) is

  pub one_refused : (all : List TableRecord) (items : List Table) (t : TableRecord) (rest : List TableRecord) (e : Refusal) → told_tables n sectors all ≡ (told_tables n sectors (t ∷ rest) >>= λ (more : List Table). Some (items ++ more))
      → IsRefusedFor (told_table n sectors t) e → IsRefusedFor (told_tables n sectors all) e
  one_refused all items t rest e is = ⊎_elim (λ h. inl (h.0, is ∙ none_told items t rest h.1)) (λ h. inr h)

  pub all_told : (all rest : List TableRecord) (items : List Table) → told_tables n sectors all ≡ (told_tables n sectors rest >>= λ (more : List Table). Some (items ++ more)) → rest ≡ [] → told_tables n sectors all ≡ Some items
  all_told all rest items is none =
      is ∙ ap (λ (l : List TableRecord). told_tables n sectors l >>= λ (more : List Table). Some (items ++ more)) none ∙ ap (λ (l : List Table). Some l) (append-nil items)

pub one_named : (ts : List TableRecord) (items : List Table) (t : TableRecord) (x : Table) → AreNamedBy ts items → IsNamedBy t x → AreNamedBy (ts ++ t ∷ []) (items ++ x ∷ [])
one_named [] [] t x all is = (is, tt)
one_named [] (y ∷ items) t x all is = absurd all
one_named (u ∷ ts) [] t x all is = absurd all
one_named (u ∷ ts) (y ∷ items) t x all is = (all.0, one_named ts items t x all.1 is)

pub drop_all : {X : Type 0} (i : ℕ) (xs : List X) → length xs ≤ i → drop i xs ≡ []
drop_all zero [] le = refl
drop_all zero (x ∷ xs) le = absurd (omega (arith, le))
drop_all (suc i) [] le = refl
drop_all (suc i) (x ∷ xs) le = drop_all i xs (omega (arith, le))

-- ---- runs

-- tables that are no run
pub not_run : (tables : List Table) → (IsRun tables → ⊥) → run_if tables ≡ None
not_run tables none = by (is_run tables) (λ h. run_tested tables h)
  where
    by : (b : Bool) → (b ≡ true → IsRun tables) → (if b then Some tables else None) ≡ None
    by true is = absurd (none (is refl))
    by false is = refl

pub some_run : (tables : List Table) → IsRun tables → run_if tables ≡ Some tables
some_run tables is = ap (λ (b : Bool). if b then Some tables else None) (tested_run tables is)

pub run_refused : (tables : Option (List Table)) (e : Refusal) → IsRefusedFor tables e → IsRefusedFor (tables >>= run_if) e
run_refused tables e = ⊎_elim (λ h. inl (h.0, ap (λ (o : Option (List Table)). o >>= run_if) h.1)) (λ h. inr h)

split_lt : (k j : ℕ) → k < suc j → (k < j) ⊎ (j ≡ k)
split_lt zero zero lt = inr refl
split_lt (suc k) zero lt = absurd (omega (arith, lt))
split_lt zero (suc j) lt = inl (omega arith)
split_lt (suc k) (suc j) lt = ⊎_elim (λ h. inl (omega (arith, h))) (λ h. inr (ap suc h)) (split_lt k j (omega (arith, lt)))

module _ (n : ℕ) (sectors : List (List ℕ)) (m : Contents) where
  no_run : (o : Option (List (List Table))) (r : Option (List Table)) → r ≡ None → (o >>= λ (before : List (List Table)). r >>= λ (run : List Table). Some (before ++ run ∷ [])) ≡ None
  no_run None r is = refl
  no_run (Some before) r is = ap (λ (r : Option (List Table)). r >>= λ (run : List Table). Some (before ++ run ∷ [])) is

  -- a run that is not told
  no_runs : (k j : ℕ) → told_run n sectors m k ≡ None → k < j → told_runs n sectors m j ≡ None
  no_runs k zero none lt = absurd (omega (arith, lt))
  no_runs k (suc j) none lt = ⊎_elim (λ below. ap (λ (o : Option (List (List Table))). o >>= λ (before : List (List Table)). told_run n sectors m j >>= λ (run : List Table). Some (before ++ run ∷ [])) (no_runs k j none below))
      (λ same. no_run (told_runs n sectors m j) (told_run n sectors m j) (ap (told_run n sectors m) same ∙ none)) (split_lt k j lt)

  pub level_refused : (k : ℕ) (e : Refusal) → k < m.runs + 4 → IsRefusedFor (told_run n sectors m k) e → IsRefusedFor (told_levels n sectors m) e
  level_refused k e lt = ⊎_elim (λ h. inl (h.0, ap (λ (o : Option (List (List Table))). o >>= λ (all : List (List Table)). Some (levels_of m.runs all)) (no_runs k (m.runs + 4) h.1 lt))) (λ h. inr h)
