-- The levels of tables that stand are told.
use Rattle.std.proofs.Common.{◌≡◌, ⊎_elim, ◌⊎◌, ℕ, zero, suc, ◌+◌, ◌<◌, ◌≤◌, Bool, true, false, cond, List, [], ◌∷◌, ◌++◌, length, take, filter, All, Option, Some, None, refl, sym, ap, subst, ◌∙◌, arith}
use Rattle.std.specs.List.{AllByRecursion}
use Rattle.std.specs.Ordering.{is_lt}
use Rattle.std.specs.declared.cmp.Ordering.TheVariants.{Less}
use Rattle.std.proofs.lemmas.Bool.{eqb-true, ne_eqb}
use Rattle.std.proofs.lemmas.List.Elements.{All-nil, All-cons, All-head, All-tail, All-weaker, All-filter}
use Rattle.std.proofs.lemmas.Option.{same_Some}
use Rattle.lsm_codec.proofs.Lists.{filter_step, all_right}
use Rattle.lsm_codec.specs.Keys.{Bytes, byte_order}
use Rattle.lsm_codec.specs.Manifests.{Contents}
use Rattle.lsm_codec.specs.Pairs.{Pairwise}
use Rattle.lsm_codec.specs.Reading.{◌>>=◌}
use Rattle.lsm_codec.specs.TableRecords.{HasSizes, IsTableRecord, IsOfVersion, runs_in, extent_blocks}
use Rattle.lsm_codec.specs.declared.superblock.FormatVersion.TheVariants.{Two}
use Rattle.lsm_codec.specs.Versions.{Version}
use Rattle.lsm_codec.specs.declared.table_record.TableRecord.{TableRecord}
use Rattle.lsm_device.specs.declared.refusal.Refusal.{Refusal}
use Rattle.lsm_device.specs.declared.refusal.Refusal.TheVariants.{NoMemory, Io}
use Rattle.lsm_levels.specs.Levels.{Levels}
use Rattle.lsm_levels.specs.Stored.{blocks_from}
use Rattle.lsm_levels.specs.Tables.{Table, IsRun, at_most, is_below}
use Rattle.lsm_open.specs.Tables.{extent_start, versions_if, versions_at, IsTableAt, AscendInRun, AreTables}
use Rattle.lsm_open.specs.ToldTables.{told_tables, run_if, run_place, is_in_run, run_records, told_run, told_runs, told_levels, levels_of, IsRefusedFor}
use Rattle.lsm_open.proofs.BlockReads.{extent_is}
use Rattle.lsm_open.proofs.StandingTables.{standing, told_standing}
use Rattle.lsm_open.proofs.ToldRuns.{some_run}
use Rattle.lsm_table.specs.BlockEdges.{last_edge, edges_of, first_key_of, last_key}
use Rattle.lsm_table.specs.Division.{Block, TableBlocks, entries_of}
use Rattle.lsm_table.specs.Places.{IsSorted}
use Rattle.lsm_table.specs.Stored.{table_of}
use Rattle.lsm_levels.proofs.CursorStored.{lowest, AreSome}

-- ---- first and last key of a table

-- what holds of each key of a table holds of the first one, and of the last
module _ (P : Bytes → Type 0) where
  first_has : (table : TableBlocks) → AreSome table → 0 < length table → AllByRecursion (λ v. P v.key) (entries_of table) → P (first_key_of table)
  first_has [] some lt all = absurd (omega (arith, lt))
  first_has ([] ∷ table) some lt all = absurd (omega (arith, some.0))
  first_has ((v ∷ block) ∷ table) some lt all = all.0

  in_block : (v : Version) (block : Block) (rest : List Version) → AllByRecursion (λ w. P w.key) ((v ∷ block) ++ rest) → P (last_edge v block).key
  in_block v [] rest all = all.0
  in_block v (w ∷ block) rest all = in_block w block rest all.1

  last_has : (table : TableBlocks) → AreSome table → 0 < length table → AllByRecursion (λ v. P v.key) (entries_of table) → P (last_key (edges_of table))
  last_has [] some lt all = absurd (omega (arith, lt))
  last_has ([] ∷ table) some lt all = absurd (omega (arith, some.0))
  last_has ((v ∷ block) ∷ []) some lt all = in_block v block [] all
  last_has ((v ∷ block) ∷ [] ∷ table) some lt all = absurd (omega (arith, some.1.0))
  last_has ((v ∷ block) ∷ (w ∷ next) ∷ table) some lt all =
      last_has ((w ∷ next) ∷ table) some.1 (omega arith) (all_right (λ x. P x.key) (v ∷ block) (entries_of ((w ∷ next) ∷ table)) all)

first_at_most : (table : TableBlocks) → IsSorted table → 0 < length table → at_most (first_key_of table) (last_key (edges_of table)) ≡ true
first_at_most table sorted some = last_has (λ k. at_most (first_key_of table) k ≡ true) table sorted.nonempty some (lowest table sorted.nonempty sorted.ordered)

-- blocks that spell a table, of which there is one
some_spelled : (S : List (List ℕ)) (at d n : ℕ) (table : TableBlocks) → 1 ≤ d → d ≤ n → table_of (take d (blocks_from S at n)) ≡ Some table → 0 < length table
some_spelled S at zero n table low le is = absurd (omega (arith, low))
some_spelled S at (suc d) zero table low le is = absurd (omega (arith, le))
some_spelled S at (suc d) (suc n) table low le is = by _ _ is
  where
    by : (o : Option Block) (p : Option TableBlocks) → (o >>= λ (entries : Block). p >>= λ (rest : TableBlocks). Some (entries ∷ rest)) ≡ Some table → 0 < length table
    by None p h = absurd cc
    by (Some x) None h = absurd cc
    by (Some x) (Some xs) h = subst (λ (l : TableBlocks). 0 < length l) (same_Some (x ∷ xs) table h) (omega arith)

-- ---- one run

module _ (n base : ℕ) (s : List (List ℕ)) where
  -- each key of the earlier table is below each of the later
  abbrev Ascend : TableRecord → TableRecord → Type 0
  Ascend t u = AllByRecursion (λ v. AllByRecursion (λ w. byte_order v.key w.key ≡ Less) (versions_at n s u)) (versions_at n s t)

  abbrev IsAbove : Bytes → TableRecord → Type 0
  IsAbove k u = AllByRecursion (λ w. byte_order k w.key ≡ Less) (versions_at n s u)

  module _ (t : TableRecord) (is : IsTableAt n base s t) (sizes : HasSizes t) where
    its_versions : versions_at n s t ≡ entries_of is.table
    its_versions = ap versions_if is.spelled

    has_blocks : 0 < length is.table
    has_blocks = some_spelled s (extent_start n t) t.data_blocks (extent_blocks t) is.table sizes.data_low (omega arith) (sym (ap (λ (bs : List (List ℕ)). table_of (take t.data_blocks bs)) (extent_is n s t)) ∙ is.spelled)

    -- its range is not empty
    range_some : at_most (standing n base s t is).first (standing n base s t is).last ≡ true
    range_some = first_at_most is.table is.sorted has_blocks

    -- a key that is below all of its keys is below its range
    key_below : (k : Bytes) → IsAbove k t → is_below k (standing n base s t is).first ≡ true
    key_below k above = ap is_lt (first_has (λ x. byte_order k x ≡ Less) is.table is.sorted.nonempty has_blocks (subst (AllByRecursion (λ w. byte_order k w.key ≡ Less)) its_versions above))

    -- its last key is below all keys of a later table
    last_below : (u : TableRecord) → Ascend t u → IsAbove (standing n base s t is).last u
    last_below u ascend = last_has (λ k. IsAbove k u) is.table is.sorted.nonempty has_blocks (subst (AllByRecursion (λ v. IsAbove v.key u)) its_versions ascend)

  -- the tables of records are told, and are a run, after each key that is below all of theirs
  record RunStands (ts : List TableRecord) : Type 0 where
    tables : List Table
    told : told_tables n s ts ≡ Some tables
    is_one : IsRun tables
    behind : (k : Bytes) → All (IsAbove k) ts → AllByRecursion (λ u. is_below k u.first ≡ true) tables

  run_stands : (ts : List TableRecord) → All (IsTableAt n base s) ts → All (IsOfVersion Two) ts → All HasSizes ts → Pairwise Ascend ts → RunStands ts
  run_stands [] stand two sizes ascend = record { tables = []; told = refl; is_one = tt; behind = λ k above. tt }
  run_stands (t ∷ rest) stand two sizes ascend =
      let is : IsTableAt n base s t = All-head (IsTableAt n base s) t rest stand in
      let its : HasSizes t = All-head HasSizes t rest sizes in
      let table : Table = standing n base s t is in
      let more : RunStands rest = run_stands rest (All-tail (IsTableAt n base s) t rest stand) (All-tail (IsOfVersion Two) t rest two) (All-tail HasSizes t rest sizes) ascend.1 in
      record {
        tables = table ∷ more.tables;
        told = ap (λ (o : Option Table). o >>= λ (x : Table). told_tables n s rest >>= λ (xs : List Table). Some (x ∷ xs)) (told_standing n base s t is (All-head (IsOfVersion Two) t rest two)) ∙ ap (λ (o : Option (List Table)). o >>= λ (xs : List Table). Some (table ∷ xs)) more.told;
        is_one = (range_some t is its, more.behind table.last (All-weaker (Ascend t) (IsAbove table.last) (last_below t is its) rest ascend.0), more.is_one);
        behind = λ k above. (key_below t is its k (All-head (IsAbove k) t rest above), more.behind k (All-tail (IsAbove k) t rest above));
      }

-- ---- the records of one run

module _ {X : Type 0} (p : X → Bool) (R Q : X → X → Type 0) (P : X → Type 0) (by : (x y : X) → p x ≡ true → p y ≡ true → P x → P y → R x y → Q x y) where
  those_behind : (x : X) → p x ≡ true → P x → (ys : List X) → All P ys → All (R x) ys → All (Q x) (filter p ys)
  those_behind x px is [] all related = All-nil (Q x)
  those_behind x px is (y ∷ ys) all related = one (those_behind x px is ys (All-tail P y ys all) (All-tail (R x) y ys related)) (p y) refl
    where
      one : All (Q x) (filter p ys) → (b : Bool) → p y ≡ b → All (Q x) (filter p (y ∷ ys))
      one later true py = subst (All (Q x)) (sym (filter_step p y ys true py)) (All-cons (Q x) y (filter p ys) (by x y px py is (All-head P y ys all) (All-head (R x) y ys related)) later)
      one later false py = subst (All (Q x)) (sym (filter_step p y ys false py)) later

  filtered_pairs : (xs : List X) → All P xs → Pairwise R xs → Pairwise Q (filter p xs)
  filtered_pairs [] all pairs = tt
  filtered_pairs (x ∷ xs) all pairs = one (filtered_pairs xs (All-tail P x xs all) pairs.1) (p x) refl
    where
      one : Pairwise Q (filter p xs) → (b : Bool) → p x ≡ b → Pairwise Q (filter p (x ∷ xs))
      one later true px = subst (Pairwise Q) (sym (filter_step p x xs true px)) (those_behind x px (All-head P x xs all) xs (All-tail P x xs all) pairs.0, later)
      one later false px = subst (Pairwise Q) (sym (filter_step p x xs false px)) later

one_run_below : (runs a x : ℕ) → x < runs_in runs (suc a) → x < 1
one_run_below runs a x = subst (λ (k : ℕ). x < k) (ap (λ (b : Bool). cond b runs 1) (ne_eqb (suc a) 0 (λ e. absurd (omega (arith, e)))))

-- records of one place are of one level and run
same_place : (runs a x b y : ℕ) → x < runs_in runs a → y < runs_in runs b → run_place runs x a ≡ run_place runs y b → (a ≡ b) × (x ≡ y)
same_place runs zero x zero y low high same = (refl, same)
same_place runs zero x (suc b) y low high same = absurd (omega (arith, low, same))
same_place runs (suc a) x zero y low high same = absurd (omega (arith, high, same))
same_place runs (suc a) x (suc b) y low high same = (omega (arith, same), omega (arith, one_run_below runs a x low, one_run_below runs b y high))

-- ---- all runs

module _ (n : ℕ) (s : List (List ℕ)) (m : Contents) (all : All (IsTableRecord m.next_table m.runs) m.tables) (two : All (IsOfVersion Two) m.tables) (stand : AreTables n m.base m.tables s) where
  run_ascends : (k : ℕ) → Pairwise (Ascend n m.base s) (run_records m k)
  run_ascends k = filtered_pairs (is_in_run m.runs k) (AscendInRun n s) (Ascend n m.base s) (IsTableRecord m.next_table m.runs)
      (λ t u pt pu ist isu ascend. ascend (same_place m.runs t.level t.run u.level u.run ist.run isu.run (eqb-true (run_place m.runs t.run t.level) k pt ∙ sym (eqb-true (run_place m.runs u.run u.level) k pu)))) m.tables all stand.ascend

  one_run : (k : ℕ) → RunStands n m.base s (run_records m k)
  one_run k = run_stands n m.base s (run_records m k)
      (All-filter (is_in_run m.runs k) (IsTableAt n m.base s) m.tables stand.each)
      (All-filter (is_in_run m.runs k) (IsOfVersion Two) m.tables two)
      (All-filter (is_in_run m.runs k) HasSizes m.tables (All-weaker (IsTableRecord m.next_table m.runs) HasSizes (λ t is. is.sizes) m.tables all)) (run_ascends k)

  run_told : (k : ℕ) → (run : List Table) × (told_run n s m k ≡ Some run)
  run_told k =
      let one : RunStands n m.base s (run_records m k) = one_run k in
      (one.tables, ap (λ (o : Option (List Table)). o >>= run_if) one.told ∙ some_run one.tables one.is_one)

  runs_told : (k : ℕ) → (runs : List (List Table)) × (told_runs n s m k ≡ Some runs)
  runs_told zero = ([], refl)
  runs_told (suc k) =
      let before = runs_told k in
      let run = run_told k in
      (before.0 ++ run.0 ∷ [], ap (λ (o : Option (List (List Table))). o >>= λ (b : List (List Table)). told_run n s m k >>= λ (r : List Table). Some (b ++ r ∷ [])) before.1 ∙ ap (λ (o : Option (List Table)). o >>= λ (r : List Table). Some (before.0 ++ r ∷ [])) run.1)

  -- the levels of tables that stand are told
  pub levels_stand : (levels : Levels) × (told_levels n s m ≡ Some levels)
  levels_stand =
      let runs = runs_told (m.runs + 4) in
      (levels_of m.runs runs.0, ap (λ (o : Option (List (List Table))). o >>= λ (r : List (List Table)). Some (levels_of m.runs r)) runs.1)

  -- so reading them is refused for another reason
  pub other_refusal : (e : Refusal) → IsRefusedFor (told_levels n s m) e → (e ≡ NoMemory) ⊎ (e ≡ Io)
  other_refusal e = ⊎_elim (λ bad. absurd (let no : None ≡ Some levels_stand.0 = sym bad.1 ∙ levels_stand.1 in cc)) (λ other. other)
