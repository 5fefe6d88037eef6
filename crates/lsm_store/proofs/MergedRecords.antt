-- The records of tables around a merge, and after it.
use Rattle.std.proofs.Common.{◌≡◌, ℕ, zero, suc, ◌+◌, ◌<◌, ◌≤◌, Bool, true, List, [], ◌∷◌, ◌++◌, length, map, take, drop, get_or, set, Option, refl, sym, ap, subst, ◌∙◌, append_assoc, arith}
use Rattle.std.proofs.lemmas.List.{length-take-le, get_or-set_other}
use Rattle.lsm_codec.specs.declared.table_record.TableRecord.{TableRecord}
use Rattle.lsm_device.specs.Disk.{Disk}
use Rattle.lsm_levels.specs.Held.{AreRuns, HasItsTables, IsHeld}
use Rattle.lsm_levels.specs.Levels.{Levels, level, newer_runs, replaced, merged_at}
use Rattle.lsm_levels.specs.Pick.{Job, Flush, Merge, installed_levels}
use Rattle.lsm_levels.specs.Tables.{Table, KeyRange, record_of, at_most, put_at}
use Rattle.lsm_levels.proofs.Runs.{run_at, upper_order}
use Rattle.lsm_open.specs.Placements.{Placement}
use Rattle.lsm_open.specs.Switching.{pushed, with_inputs, with_outputs}
use Rattle.lsm_open.specs.ToldTables.{records_of_runs, records_of_levels, records_of}
use Rattle.lsm_store.specs.InstalledJobs.{output_records, ending_before, that_meet, beginning_behind, runs_holding, parts_at, parts_if, parts_of, installed_in}
use Rattle.lsm_store.proofs.InstalledRecords.{flushed_records, levels_append, upper_records, four_parts, split_records, put_records}

abbrev Records : Type 0
Records = List TableRecord

-- ---- lists around one element, and around two after one another

module _ {X : Type 0} where
  one_there : (i : ℕ) (xs : List X) (d : X) → i < length xs → xs ≡ take i xs ++ (get_or xs i d ∷ drop (suc i) xs)
  one_there i [] d inside = absurd (omega (arith, inside))
  one_there zero (x ∷ xs) d inside = refl
  one_there (suc i) (x ∷ xs) d inside = ap (λ (l : List X). x ∷ l) (one_there i xs d (omega (arith, inside)))

  set_one : (i : ℕ) (xs : List X) (a : X) → i < length xs → set xs i a ≡ take i xs ++ (a ∷ drop (suc i) xs)
  set_one i [] a inside = absurd (omega (arith, inside))
  set_one zero (x ∷ xs) a inside = refl
  set_one (suc i) (x ∷ xs) a inside = ap (λ (l : List X). x ∷ l) (set_one i xs a (omega (arith, inside)))

  two_there : (i : ℕ) (xs : List X) (d : X) → suc i < length xs → xs ≡ take i xs ++ (get_or xs i d ∷ get_or xs (suc i) d ∷ drop (suc (suc i)) xs)
  two_there i [] d inside = absurd (omega (arith, inside))
  two_there i (x ∷ []) d inside = absurd (omega (arith, inside))
  two_there zero (x ∷ y ∷ xs) d inside = refl
  two_there (suc i) (x ∷ y ∷ xs) d inside = ap (λ (l : List X). x ∷ l) (two_there i (y ∷ xs) d (omega (arith, inside)))

  set_two : (i : ℕ) (xs : List X) (a b : X) → suc i < length xs → set (set xs (suc i) b) i a ≡ take i xs ++ (a ∷ b ∷ drop (suc (suc i)) xs)
  set_two i [] a b inside = absurd (omega (arith, inside))
  set_two i (x ∷ []) a b inside = absurd (omega (arith, inside))
  set_two zero (x ∷ y ∷ xs) a b inside = refl
  set_two (suc i) (x ∷ y ∷ xs) a b inside = ap (λ (l : List X). x ∷ l) (set_two i (y ∷ xs) a b (omega (arith, inside)))

-- the records of levels where one of them is told apart
one_level : (i : ℕ) (front : List (List Table)) (tables : List Table) (rest : List (List Table)) → length front ≡ i
    → records_of_levels 1 (front ++ (tables ∷ rest)) ≡ records_of_levels 1 front ++ (map (record_of (suc i) 0) tables ++ records_of_levels (suc (suc i)) rest)
one_level i front tables rest count =
    let place : 1 + length front ≡ suc i = omega (arith, count) in
    levels_append 1 front (tables ∷ rest) ∙ ap (λ (k : ℕ). records_of_levels 1 front ++ records_of_levels k (tables ∷ rest)) place

-- and where two of them are
two_levels : (i : ℕ) (front : List (List Table)) (upper lower : List Table) (rest : List (List Table)) → length front ≡ i
    → records_of_levels 1 (front ++ (upper ∷ lower ∷ rest)) ≡ records_of_levels 1 front ++ (map (record_of (suc i) 0) upper ++ (map (record_of (suc (suc i)) 0) lower ++ records_of_levels (suc (suc (suc i))) rest))
two_levels i front upper lower rest count =
    let place : 1 + length front ≡ suc i = omega (arith, count) in
    levels_append 1 front (upper ∷ lower ∷ rest) ∙ ap (λ (k : ℕ). records_of_levels 1 front ++ records_of_levels k (upper ∷ lower ∷ rest)) place

-- ---- lists of records, put together another way

inputs_above : (n u b m a d : Records) → (n ++ u) ++ ((b ++ (m ++ a)) ++ d) ≡ n ++ (u ++ (b ++ (m ++ (a ++ d))))
inputs_above n u b m a d = append_assoc n u ((b ++ (m ++ a)) ++ d) ∙ ap (λ (l : Records). n ++ (u ++ l)) (four_parts b m a d)

two_fronts : (r t b z : Records) → r ++ (t ++ (b ++ z)) ≡ (r ++ (t ++ b)) ++ z
two_fronts r t b z = ap (λ (l : Records). r ++ l) (sym (append_assoc t b z)) ∙ sym (append_assoc r (t ++ b) z)

inside_level : (r t b m a d : Records) → r ++ (t ++ ((b ++ (m ++ a)) ++ d)) ≡ (r ++ (t ++ b)) ++ (m ++ (a ++ d))
inside_level r t b m a d = ap (λ (l : Records). r ++ (t ++ l)) (four_parts b m a d) ∙ two_fronts r t b (m ++ (a ++ d))

inputs_below : (r t b m a c n e d : Records) → r ++ (t ++ ((b ++ (m ++ a)) ++ ((c ++ (n ++ e)) ++ d))) ≡ (r ++ (t ++ b)) ++ (m ++ ((a ++ c) ++ (n ++ (e ++ d))))
inputs_below r t b m a c n e d =
    ap (λ (l : Records). r ++ (t ++ l)) (
    four_parts b m a ((c ++ (n ++ e)) ++ d)
    ∙ ap (λ (l : Records). b ++ (m ++ l)) (ap (λ (l : Records). a ++ l) (four_parts c n e d) ∙ sym (append_assoc a c (n ++ (e ++ d)))))
    ∙ two_fronts r t b (m ++ ((a ++ c) ++ (n ++ (e ++ d))))

outputs_below : (r t b a c o e d : Records) → r ++ (t ++ ((b ++ a) ++ ((c ++ (o ++ e)) ++ d))) ≡ (r ++ (t ++ b)) ++ ((a ++ c) ++ (o ++ (e ++ d)))
outputs_below r t b a c o e d =
    ap (λ (l : Records). r ++ (t ++ l)) (
    append_assoc b a ((c ++ (o ++ e)) ++ d)
    ∙ ap (λ (l : Records). b ++ l) (ap (λ (l : Records). a ++ l) (four_parts c o e d) ∙ sym (append_assoc a c (o ++ (e ++ d)))))
    ∙ two_fronts r t b ((a ++ c) ++ (o ++ (e ++ d)))

-- ---- the parts, and the outputs in them

module _ (levels : Levels) (runs : AreRuns levels) (r : KeyRange) (order : at_most r.first r.last ≡ true) where
  -- a level cut around the range
  cut : (k : ℕ) → map (record_of (suc k) 0) (level levels (suc k))
      ≡ map (record_of (suc k) 0) (ending_before r (level levels (suc k))) ++ (map (record_of (suc k) 0) (that_meet r (level levels (suc k))) ++ map (record_of (suc k) 0) (beginning_behind r (level levels (suc k))))
  cut k = split_records (suc k) r order (level levels (suc k)) (run_at levels runs k)

  first_level : records_of_levels 1 levels.deeper ≡ map (record_of 1 0) (level levels 1) ++ records_of_levels 2 (drop 1 levels.deeper)
  first_level = ap (records_of_levels 1) (one_there 0 levels.deeper [] (omega (arith, runs.four)))

  one_here : (i : ℕ) → i ≤ 3 → records_of_levels 1 levels.deeper
      ≡ records_of_levels 1 (take i levels.deeper) ++ (map (record_of (suc i) 0) (level levels (suc i)) ++ records_of_levels (suc (suc i)) (drop (suc i) levels.deeper))
  one_here i le =
      ap (records_of_levels 1) (one_there i levels.deeper [] (omega (arith, le, runs.four)))
      ∙ one_level i (take i levels.deeper) (level levels (suc i)) (drop (suc i) levels.deeper) (length-take-le i levels.deeper (omega (arith, le, runs.four)))

  two_here : (i : ℕ) → i ≤ 2 → records_of_levels 1 levels.deeper
      ≡ records_of_levels 1 (take i levels.deeper) ++ (map (record_of (suc i) 0) (level levels (suc i)) ++ (map (record_of (suc (suc i)) 0) (level levels (suc (suc i))) ++ records_of_levels (suc (suc (suc i))) (drop (suc (suc i)) levels.deeper)))
  two_here i le =
      ap (records_of_levels 1) (two_there i levels.deeper [] (omega (arith, le, runs.four)))
      ∙ two_levels i (take i levels.deeper) (level levels (suc i)) (level levels (suc (suc i))) (drop (suc (suc i)) levels.deeper) (length-take-le i levels.deeper (omega (arith, le, runs.four)))

  pub in_parts : (tables i : ℕ) → i ≤ 3 → records_of levels ≡ with_inputs (parts_at levels i r tables)
  in_parts zero i le =
      let above = records_of_runs 0 levels.runs in
      let front = records_of_levels 1 (take i levels.deeper) in
      let rest = records_of_levels (suc (suc i)) (drop (suc i) levels.deeper) in
      ap (λ (l : Records). above ++ l) (one_here i le ∙ ap (λ (l : Records). front ++ (l ++ rest)) (cut i))
      ∙ inside_level above front
      (map (record_of (suc i) 0) (ending_before r (level levels (suc i)))) (map (record_of (suc i) 0) (that_meet r (level levels (suc i)))) (map (record_of (suc i) 0) (beginning_behind r (level levels (suc i)))) rest
  in_parts (suc more) zero le =
      let newer = records_of_runs 0 (newer_runs (suc more) levels.runs) in
      let taken = records_of_runs (length (newer_runs (suc more) levels.runs)) (runs_holding (suc more) levels.runs) in
      let rest = records_of_levels 2 (drop 1 levels.deeper) in
      ap (λ (l : Records). l ++ records_of_levels 1 levels.deeper) (upper_records (suc more) levels.runs)
      ∙ ap (λ (l : Records). (newer ++ taken) ++ l) (first_level ∙ ap (λ (l : Records). l ++ rest) (cut 0))
      ∙ inputs_above newer taken
      (map (record_of 1 0) (ending_before r (level levels 1))) (map (record_of 1 0) (that_meet r (level levels 1))) (map (record_of 1 0) (beginning_behind r (level levels 1))) rest
  in_parts (suc more) (suc i) le =
      let above = records_of_runs 0 levels.runs in
      let front = records_of_levels 1 (take i levels.deeper) in
      let rest = records_of_levels (suc (suc (suc i))) (drop (suc (suc i)) levels.deeper) in
      ap (λ (l : Records). above ++ l) (
      two_here i (omega (arith, le))
      ∙ ap (λ (l : Records). front ++ (l ++ (map (record_of (suc (suc i)) 0) (level levels (suc (suc i))) ++ rest))) (cut i)
      ∙ ap (λ (l : Records). front ++ ((map (record_of (suc i) 0) (ending_before r (level levels (suc i))) ++ (map (record_of (suc i) 0) (that_meet r (level levels (suc i))) ++ map (record_of (suc i) 0) (beginning_behind r (level levels (suc i))))) ++ (l ++ rest))) (cut (suc i)))
      ∙ inputs_below above front
      (map (record_of (suc i) 0) (ending_before r (level levels (suc i)))) (map (record_of (suc i) 0) (that_meet r (level levels (suc i)))) (map (record_of (suc i) 0) (beginning_behind r (level levels (suc i))))
      (map (record_of (suc (suc i)) 0) (ending_before r (level levels (suc (suc i))))) (map (record_of (suc (suc i)) 0) (that_meet r (level levels (suc (suc i))))) (map (record_of (suc (suc i)) 0) (beginning_behind r (level levels (suc (suc i))))) rest

  module _ (new : List Table) where
    pub after_parts : (tables i : ℕ) → i ≤ 3 → records_of (replaced i r tables new levels) ≡ with_outputs (parts_at levels i r tables) (map (record_of (suc i) 0) new)
    after_parts zero i le =
        let above = records_of_runs 0 levels.runs in
        let front = records_of_levels 1 (take i levels.deeper) in
        let rest = records_of_levels (suc (suc i)) (drop (suc i) levels.deeper) in
        let put = put_at r new (level levels (suc i)) in
        ap (λ (l : List (List Table)). above ++ records_of_levels 1 l) (set_one i levels.deeper put (omega (arith, le, runs.four)))
        ∙ ap (λ (l : Records). above ++ l) (
        one_level i (take i levels.deeper) put (drop (suc i) levels.deeper) (length-take-le i levels.deeper (omega (arith, le, runs.four)))
        ∙ ap (λ (l : Records). front ++ (l ++ rest)) (put_records (suc i) r new (level levels (suc i))))
        ∙ inside_level above front
        (map (record_of (suc i) 0) (ending_before r (level levels (suc i)))) (map (record_of (suc i) 0) new) (map (record_of (suc i) 0) (beginning_behind r (level levels (suc i)))) rest
    after_parts (suc more) zero le =
        let above = records_of_runs 0 (newer_runs (suc more) levels.runs) in
        let rest = records_of_levels 2 (drop 1 levels.deeper) in
        ap (λ (l : List (List Table)). above ++ records_of_levels 1 l) (set_one 0 levels.deeper (put_at r new (level levels 1)) (omega (arith, runs.four)))
        ∙ ap (λ (l : Records). above ++ (l ++ rest)) (put_records 1 r new (level levels 1))
        ∙ ap (λ (l : Records). above ++ l) (four_parts (map (record_of 1 0) (ending_before r (level levels 1))) (map (record_of 1 0) new) (map (record_of 1 0) (beginning_behind r (level levels 1))) rest)
    after_parts (suc more) (suc i) le =
        let above = records_of_runs 0 levels.runs in
        let front = records_of_levels 1 (take i levels.deeper) in
        let rest = records_of_levels (suc (suc (suc i))) (drop (suc (suc i)) levels.deeper) in
        let lowered = put_at r new (level levels (suc (suc i))) in
        let same : get_or (set levels.deeper (suc i) lowered) i [] ≡ level levels (suc i) = get_or-set_other levels.deeper (suc i) i lowered [] (λ e. omega (arith, e)) in
        let uppered = put_at r [] (level levels (suc i)) in
        ap (λ (l : List (List Table)). above ++ records_of_levels 1 l) (
        ap (λ (l : List Table). set (set levels.deeper (suc i) lowered) i (put_at r [] l)) same
        ∙ set_two i levels.deeper uppered lowered (omega (arith, le, runs.four)))
        ∙ ap (λ (l : Records). above ++ l) (
        two_levels i (take i levels.deeper) uppered lowered (drop (suc (suc i)) levels.deeper) (length-take-le i levels.deeper (omega (arith, le, runs.four)))
        ∙ ap (λ (l : Records). front ++ (l ++ (map (record_of (suc (suc i)) 0) lowered ++ rest))) (put_records (suc i) r [] (level levels (suc i)))
        ∙ ap (λ (l : Records). front ++ ((map (record_of (suc i) 0) (ending_before r (level levels (suc i))) ++ map (record_of (suc i) 0) (beginning_behind r (level levels (suc i)))) ++ (l ++ rest))) (put_records (suc (suc i)) r new (level levels (suc (suc i)))))
        ∙ outputs_below above front
        (map (record_of (suc i) 0) (ending_before r (level levels (suc i)))) (map (record_of (suc i) 0) (beginning_behind r (level levels (suc i))))
        (map (record_of (suc (suc i)) 0) (ending_before r (level levels (suc (suc i))))) (map (record_of (suc (suc i)) 0) new) (map (record_of (suc (suc i)) 0) (beginning_behind r (level levels (suc (suc i))))) rest

-- ---- of a merge that has its tables

module _ (levels : Levels) (bottom : Bool) (i : ℕ) (upper lower : List Table) (runs : AreRuns levels) (held : HasItsTables levels bottom i upper lower) where
  pub merge_order : at_most held.range.first held.range.last ≡ true
  merge_order = upper_order levels bottom i upper lower runs held

  pub merge_inputs : records_of levels ≡ with_inputs (parts_of levels i upper lower)
  merge_inputs = subst (λ (o : Option KeyRange). records_of levels ≡ with_inputs (parts_if levels i o (length upper))) (sym held.hull_is) (in_parts levels runs held.range merge_order (length upper) i held.known)

  pub merge_outputs : (new : List Table) → records_of (installed_levels levels (Merge i upper lower) new) ≡ with_outputs (parts_of levels i upper lower) (output_records (Merge i upper lower) new)
  merge_outputs new = subst (λ (o : Option KeyRange). records_of (merged_at i o (length upper) new levels) ≡ with_outputs (parts_if levels i o (length upper)) (map (record_of (suc i) 0) new)) (sym held.hull_is) (after_parts levels runs held.range merge_order new (length upper) i held.known)

-- ---- of any job

pub installed_records : (p : Placement) (d : Disk) (levels : Levels) (bottom : Bool) (job : Job) (next_table : ℕ) (new : List Table) → AreRuns levels → IsHeld levels bottom job → records_of levels ≡ p.tables
    → records_of (installed_levels levels job new) ≡ (installed_in p d levels job next_table new).tables
installed_records p d levels bottom Flush next_table new runs held named = flushed_records levels new ∙ ap (λ (l : Records). output_records Flush new ++ map pushed l) named
installed_records p d levels bottom (Merge i upper lower) next_table new runs held named = merge_outputs levels bottom i upper lower runs held new

pub installed_runs : (p : Placement) (d : Disk) (levels : Levels) (job : Job) (next_table : ℕ) (new : List Table) → length levels.runs ≡ p.runs → length (installed_levels levels job new).runs ≡ (installed_in p d levels job next_table new).runs
installed_runs p d levels Flush next_table new count = omega (arith, count)
installed_runs p d levels (Merge i upper lower) next_table new count = refl
