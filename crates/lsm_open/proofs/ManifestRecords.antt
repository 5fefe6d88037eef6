-- The records of levels, as a manifest wants them.
use Rattle.std.proofs.Common.{◌≡◌, ◌⊎◌, inl, inr, ℕ, zero, suc, ◌+◌, ◌≤◌, ◌<◌, Bool, cond, List, [], ◌∷◌, ◌++◌, length, map, All, refl, sym, ap, subst, append_assoc, arith}
use Rattle.std.specs.List.{AllByRecursion}
use Rattle.std.proofs.lemmas.Bool.{eq-eqb, ne_eqb}
use Rattle.std.proofs.lemmas.List.Elements.{All-nil, All-cons, All-append}
use Rattle.lsm_codec.specs.Pairs.{Pairwise}
use Rattle.lsm_codec.specs.TableRecords.{runs_in, InOrder, HasRun, HasRuns}
use Rattle.lsm_codec.specs.declared.table_record.TableRecord.{TableRecord}
use Rattle.lsm_levels.specs.Held.{AreRuns}
use Rattle.lsm_levels.specs.Levels.{Levels, all_tables, places}
use Rattle.lsm_levels.specs.Tables.{Table, record_of}
use Rattle.lsm_open.proofs.ListPairs.{pairwise_join}
use Rattle.lsm_open.specs.ToldTables.{records_of_runs, records_of_levels, records_of}
use Rattle.lsm_open.proofs.NamedRecords.{counted_runs}

all_records : (P : TableRecord → Type 0) (level run : ℕ) (ts : List Table) → ((t : Table) → P (record_of level run t)) → All P (map (record_of level run) ts)
all_records P level run [] each = All-nil P
all_records P level run (t ∷ ts) each = All-cons P (record_of level run t) (map (record_of level run) ts) (each t) (all_records P level run ts each)

-- ---- levels and runs are within their limits

abbrev pub IsPlacedIn : ℕ → TableRecord → Type 0
IsPlacedIn runs t = (t.level ≤ 4) × (t.run < runs_in runs t.level)

newest_level : (runs run : ℕ) → run < runs → run < runs_in runs 0
newest_level runs run lt = subst (λ (k : ℕ). run < k) (sym (ap (λ (b : Bool). cond b runs 1) (eq-eqb 0 0 refl))) lt

deeper_level : (runs k : ℕ) → 1 ≤ k → 0 < runs_in runs k
deeper_level runs k low = subst (λ (j : ℕ). 0 < j) (sym (ap (λ (b : Bool). cond b runs 1) (ne_eqb k 0 (λ e. omega (arith, e, low))))) (omega arith)

runs_within : (runs k : ℕ) (xs : List (List Table)) → k + length xs ≤ runs → All (IsPlacedIn runs) (records_of_runs k xs)
runs_within runs k [] room = All-nil (IsPlacedIn runs)
runs_within runs k (x ∷ xs) room =
    All-append (IsPlacedIn runs) (map (record_of 0 k) x) (records_of_runs (suc k) xs) (all_records (IsPlacedIn runs) 0 k x (λ t. (omega arith, newest_level runs k (omega (arith, room))))) (runs_within runs (suc k) xs (omega (arith, room)))

levels_within : (runs k : ℕ) (xs : List (List Table)) → 1 ≤ k → k + length xs ≤ 5 → All (IsPlacedIn runs) (records_of_levels k xs)
levels_within runs k [] low room = All-nil (IsPlacedIn runs)
levels_within runs k (x ∷ xs) low room =
    All-append (IsPlacedIn runs) (map (record_of k 0) x) (records_of_levels (suc k) xs) (all_records (IsPlacedIn runs) k 0 x (λ t. (omega (arith, room), deeper_level runs k low))) (levels_within runs (suc k) xs (omega arith) (omega (arith, room)))

pub records_within : (levels : Levels) (runs : ℕ) → length levels.deeper ≡ 4 → length levels.runs ≡ runs → All (λ t. (t.level ≤ 4) × (t.run < runs_in runs t.level)) (records_of levels)
records_within levels runs four count =
    All-append (IsPlacedIn runs) (records_of_runs 0 levels.runs) (records_of_levels 1 levels.deeper) (runs_within runs 0 levels.runs (omega (arith, count))) (levels_within runs 1 levels.deeper (omega arith) (omega (arith, four)))

-- ---- they stand by level, then run

abbrev IsNotBefore : ℕ → ℕ → TableRecord → Type 0
IsNotBefore level run t = (level < t.level) ⊎ ((level ≡ t.level) × (run ≤ t.run))

later_runs : (j k : ℕ) (xs : List (List Table)) → j ≤ k → All (IsNotBefore 0 j) (records_of_runs k xs)
later_runs j k [] le = All-nil (IsNotBefore 0 j)
later_runs j k (x ∷ xs) le =
    All-append (IsNotBefore 0 j) (map (record_of 0 k) x) (records_of_runs (suc k) xs) (all_records (IsNotBefore 0 j) 0 k x (λ t. inr (refl, le))) (later_runs j (suc k) xs (omega (arith, le)))

lower_levels : (j run k : ℕ) (xs : List (List Table)) → j < k → All (IsNotBefore j run) (records_of_levels k xs)
lower_levels j run k [] lt = All-nil (IsNotBefore j run)
lower_levels j run k (x ∷ xs) lt =
    All-append (IsNotBefore j run) (map (record_of k 0) x) (records_of_levels (suc k) xs) (all_records (IsNotBefore j run) k 0 x (λ t. inl lt)) (lower_levels j run (suc k) xs (omega (arith, lt)))

run_in_order : (level run : ℕ) (ts : List Table) → Pairwise InOrder (map (record_of level run) ts)
run_in_order level run [] = tt
run_in_order level run (t ∷ ts) = (all_records (InOrder (record_of level run t)) level run ts (λ u. inr (refl, omega arith)), run_in_order level run ts)

before_others : (level run : ℕ) (ts : List Table) (rest : List TableRecord) → All (IsNotBefore level run) rest → Pairwise InOrder rest → Pairwise InOrder (map (record_of level run) ts ++ rest)
before_others level run ts rest other more = pairwise_join InOrder (map (record_of level run) ts) rest (run_in_order level run ts) more (all_records (λ a. All (InOrder a) rest) level run ts (λ t. other))

levels_in_order : (k : ℕ) (xs : List (List Table)) → Pairwise InOrder (records_of_levels k xs)
levels_in_order k [] = tt
levels_in_order k (x ∷ xs) = before_others k 0 x (records_of_levels (suc k) xs) (lower_levels k 0 (suc k) xs (omega arith)) (levels_in_order (suc k) xs)

runs_in_order : (k : ℕ) (xs deeper : List (List Table)) → Pairwise InOrder (records_of_runs k xs ++ records_of_levels 1 deeper)
runs_in_order k [] deeper = levels_in_order 1 deeper
runs_in_order k (x ∷ xs) deeper =
    subst (Pairwise InOrder) (sym (append_assoc (map (record_of 0 k) x) (records_of_runs (suc k) xs) (records_of_levels 1 deeper)))
    (before_others 0 k x (records_of_runs (suc k) xs ++ records_of_levels 1 deeper)
    (All-append (IsNotBefore 0 k) (records_of_runs (suc k) xs) (records_of_levels 1 deeper) (later_runs k (suc k) xs (omega arith)) (lower_levels 0 k 1 deeper (omega arith)))
    (runs_in_order (suc k) xs deeper))

pub records_in_order : (levels : Levels) → Pairwise InOrder (records_of levels)
records_in_order levels = runs_in_order 0 levels.runs levels.deeper

-- ---- each run has a table

run_behind : (front tables : List TableRecord) (run : ℕ) → HasRun tables run → HasRun (front ++ tables) run
run_behind [] tables run has = has
run_behind (t ∷ front) tables run has = let more = run_behind front tables run has in let lt = more.1 in (suc more.0, omega (arith, lt), λ d. more.2 d)

run_there : (j k : ℕ) (xs : List (List Table)) (rest : List TableRecord) → AllByRecursion (λ run. 0 < length run) xs → j < length xs → HasRun (records_of_runs k xs ++ rest) (k + j)
run_there j k [] rest some lt = absurd (omega (arith, lt))
run_there j k ([] ∷ xs) rest some lt = absurd (let none = some.0 in omega (arith, none))
run_there zero k ((t ∷ x) ∷ xs) rest some lt = (0, omega arith, λ d. (refl, omega arith))
run_there (suc j) k ((t ∷ x) ∷ xs) rest some lt =
    let next : suc k + j ≡ k + suc j = omega arith in
    subst (λ (ts : List TableRecord). HasRun ts (k + suc j)) (sym (append_assoc (map (record_of 0 k) (t ∷ x)) (records_of_runs (suc k) xs) rest))
    (run_behind (map (record_of 0 k) (t ∷ x)) (records_of_runs (suc k) xs ++ rest) (k + suc j) (subst (HasRun (records_of_runs (suc k) xs ++ rest)) next (run_there j (suc k) xs rest some.1 (omega (arith, lt)))))

pub records_have_runs : (levels : Levels) (runs : ℕ) → AreRuns levels → length levels.runs ≡ runs → HasRuns runs (records_of levels)
records_have_runs levels runs are count = record {
  each = λ run lt. let same : 0 + run ≡ run = omega arith in subst (HasRun (records_of levels)) same (run_there run 0 levels.runs (records_of_levels 1 levels.deeper) are.some (omega (arith, lt, count)));
}

-- ---- there are as many as tables

pub records_count : (levels : Levels) → length (records_of levels) ≡ length (all_tables (places levels))
records_count levels = counted_runs 0 levels.runs levels.deeper
