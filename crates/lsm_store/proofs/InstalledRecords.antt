-- The records of tables after an install.
use Rattle.std.proofs.Common.{◌≡◌, ⊎_elim, ℕ, suc, ◌+◌, Bool, true, false, not, cond, List, [], ◌∷◌, ◌++◌, length, map, refl, sym, ap, ◌∙◌, append_assoc, arith}
use Rattle.std.specs.List.{AllByRecursion}
use Rattle.std.proofs.lemmas.Bool.{eq-eqb, ne_eqb}
use Rattle.std.proofs.lemmas.List.{map-append}
use Rattle.lsm_codec.specs.Keys.{Bytes}
use Rattle.lsm_codec.specs.declared.table_record.TableRecord.{TableRecord}
use Rattle.lsm_levels.specs.Levels.{Levels, newer_runs}
use Rattle.lsm_levels.specs.Pick.{Flush, installed_levels}
use Rattle.lsm_levels.specs.Tables.{Table, KeyRange, record_of, at_most, is_below, meets, put_at, IsRun}
use Rattle.lsm_levels.proofs.KeyOrder.{at_most_trans, below_at_most, below_then, below_is}
use Rattle.lsm_codec.proofs.Lists.{filter_step, filter_none, filter_all, all_map}
use Rattle.lsm_levels.proofs.Ranges.{sides, apart_left, apart_right, meets_ends}
use Rattle.lsm_open.specs.Switching.{pushed}
use Rattle.lsm_open.specs.ToldTables.{records_of_runs, records_of_levels, records_of}
use Rattle.lsm_store.specs.InstalledJobs.{output_records, ending_before, that_meet, beginning_behind, runs_holding}
use Rattle.lsm_store.proofs.UpperRuns.{runs_split}

abbrev Records : Type 0
Records = List TableRecord

-- ---- a run around a range

not_before : (a b : Bytes) → at_most b a ≡ true → is_below a b ≡ false
not_before a b h = below_is a b ∙ ap not h

module _ (r : KeyRange) (order : at_most r.first r.last ≡ true) where
  abbrev IsBefore : Table → Bool
  IsBefore t = is_below t.last r.first

  abbrev IsBehind : Table → Bool
  IsBehind t = is_below r.last t.first

  -- tables of which each is after a table that reaches the range
  none_before : (k : Bytes) (ts : List Table) → at_most r.first k ≡ true → AllByRecursion (λ u. is_below k u.first ≡ true) ts → IsRun ts → ending_before r ts ≡ []
  none_before k ts reaches later run = filter_none IsBefore ts (each ts later run)
    where
      each : (us : List Table) → AllByRecursion (λ u. is_below k u.first ≡ true) us → IsRun us → AllByRecursion (λ u. IsBefore u ≡ false) us
      each [] h is = tt
      each (u ∷ us) h is =
          (not_before u.last r.first (at_most_trans r.first k u.last reaches (below_at_most k u.last (below_then k u.first u.last h.0 is.0))), each us h.1 is.2)

  -- those after a table that is after the range are
  all_behind : (k : Bytes) (ts : List Table) → is_below r.last k ≡ true → AllByRecursion (λ u. at_most k u.first ≡ true) ts → AllByRecursion (λ u. IsBehind u ≡ true) ts
  all_behind k ts past later = all_map (λ u h. below_then r.last k u.first past h) ts later

  split_run : (ts : List Table) → IsRun ts → ts ≡ ending_before r ts ++ (that_meet r ts ++ beginning_behind r ts)
  split_run [] run = refl
  split_run (t ∷ rest) run = by (meets r t) refl (split_run rest run.2)
    where
      Split : Type 0
      Split = t ∷ rest ≡ ending_before r (t ∷ rest) ++ (that_meet r (t ∷ rest) ++ beginning_behind r (t ∷ rest))

      parts : (b m a : Bool) → IsBefore t ≡ b → meets r t ≡ m → IsBehind t ≡ a
          → t ∷ rest ≡ cond b (t ∷ ending_before r rest) (ending_before r rest) ++ (cond m (t ∷ that_meet r rest) (that_meet r rest) ++ cond a (t ∷ beginning_behind r rest) (beginning_behind r rest)) → Split
      parts b m a x y z is =
          is
          ∙ ap (λ (l : List Table). l ++ (cond m (t ∷ that_meet r rest) (that_meet r rest) ++ cond a (t ∷ beginning_behind r rest) (beginning_behind r rest))) (sym (filter_step IsBefore t rest b x))
          ∙ ap (λ (l : List Table). ending_before r (t ∷ rest) ++ (l ++ cond a (t ∷ beginning_behind r rest) (beginning_behind r rest))) (sym (filter_step (meets r) t rest m y))
          ∙ ap (λ (l : List Table). ending_before r (t ∷ rest) ++ (that_meet r (t ∷ rest) ++ l)) (sym (filter_step IsBehind t rest a z))

      met : meets r t ≡ true → rest ≡ ending_before r rest ++ (that_meet r rest ++ beginning_behind r rest) → Split
      met m later =
          let ends = meets_ends r t m in
          let none : ending_before r rest ≡ [] = none_before t.last rest ends.0 run.1 run.2 in
          parts false true false (not_before t.last r.first ends.0) m (not_before r.last t.first ends.1)
          (ap (λ (l : List Table). t ∷ l) (later ∙ ap (λ (l : List Table). l ++ (that_meet r rest ++ beginning_behind r rest)) none) ∙ ap (λ (l : List Table). l ++ (t ∷ (that_meet r rest ++ beginning_behind r rest))) (sym none))

      before : IsBefore t ≡ true → rest ≡ ending_before r rest ++ (that_meet r rest ++ beginning_behind r rest) → Split
      before b later =
          let reaches : at_most t.first r.last ≡ true = at_most_trans t.first r.first r.last (at_most_trans t.first t.last r.first run.0 (below_at_most t.last r.first b)) order in
          parts true false false b (apart_left r t b) (not_before r.last t.first reaches) (ap (λ (l : List Table). t ∷ l) later)

      behind : IsBehind t ≡ true → Split
      behind a =
          let firsts : AllByRecursion (λ u. at_most t.first u.first ≡ true) rest = all_map (λ u h. at_most_trans t.first t.last u.first run.0 (below_at_most t.last u.first h)) rest run.1 in
          let those : AllByRecursion (λ u. IsBehind u ≡ true) rest = all_behind t.first rest a firsts in
          let reaches : at_most r.first t.last ≡ true = at_most_trans r.first r.last t.last order (at_most_trans r.last t.first t.last (below_at_most r.last t.first a) run.0) in
          let none : ending_before r rest ≡ [] = none_before t.last rest reaches run.1 run.2 in
          let no_met : that_meet r rest ≡ [] = filter_none (meets r) rest (all_map (λ u h. apart_right r u h) rest those) in
          let all : beginning_behind r rest ≡ rest = filter_all IsBehind rest those in
          parts false false true (not_before t.last r.first reaches) (apart_right r t a) a
          (sym (ap (λ (l : List Table). l ++ (that_meet r rest ++ (t ∷ beginning_behind r rest))) none ∙ ap (λ (l : List Table). l ++ (t ∷ beginning_behind r rest)) no_met ∙ ap (λ (l : List Table). t ∷ l) all))

      by : (m : Bool) → meets r t ≡ m → rest ≡ ending_before r rest ++ (that_meet r rest ++ beginning_behind r rest) → Split
      by true m later = met m later
      by false m later = ⊎_elim (λ b. before b later) (λ a. behind a) (sides r t m)

-- ---- records of runs, one after the other

runs_append : (k : ℕ) (xs ys : List (List Table)) → records_of_runs k (xs ++ ys) ≡ records_of_runs k xs ++ records_of_runs (k + length xs) ys
runs_append k [] ys = let none : k ≡ k + 0 = omega arith in ap (λ (j : ℕ). records_of_runs j ys) none
runs_append k (x ∷ xs) ys =
    let next : suc k + length xs ≡ k + suc (length xs) = omega arith in
    ap (λ (l : Records). map (record_of 0 k) x ++ l) (runs_append (suc k) xs ys ∙ ap (λ (j : ℕ). records_of_runs (suc k) xs ++ records_of_runs j ys) next)
    ∙ sym (append_assoc (map (record_of 0 k) x) (records_of_runs (suc k) xs) (records_of_runs (k + suc (length xs)) ys))

pub levels_append : (k : ℕ) (xs ys : List (List Table)) → records_of_levels k (xs ++ ys) ≡ records_of_levels k xs ++ records_of_levels (k + length xs) ys
levels_append k [] ys = let none : k ≡ k + 0 = omega arith in ap (λ (j : ℕ). records_of_levels j ys) none
levels_append k (x ∷ xs) ys =
    let next : suc k + length xs ≡ k + suc (length xs) = omega arith in
    ap (λ (l : Records). map (record_of k 0) x ++ l) (levels_append (suc k) xs ys ∙ ap (λ (j : ℕ). records_of_levels (suc k) xs ++ records_of_levels j ys) next)
    ∙ sym (append_assoc (map (record_of k 0) x) (records_of_levels (suc k) xs) (records_of_levels (k + suc (length xs)) ys))

-- ---- a flush

one_pushed : (k : ℕ) (t : Table) → pushed (record_of 0 k t) ≡ record_of 0 (suc k) t
one_pushed k t =
    let next : k + 1 ≡ suc k = omega arith in
    ap (λ (b : Bool). with_run (cond b (k + 1) k)) (eq-eqb 0 0 refl) ∙ ap with_run next
  where
    with_run : ℕ → TableRecord
    with_run r = record_of 0 r t

deeper_pushed : (k : ℕ) (t : Table) → pushed (record_of (suc k) 0 t) ≡ record_of (suc k) 0 t
deeper_pushed k t = ap (λ (b : Bool). with_run (cond b (0 + 1) 0)) (ne_eqb (suc k) 0 (λ e. absurd (omega (arith, e))))
  where
    with_run : ℕ → TableRecord
    with_run r = record_of (suc k) r t

map_same : (f g : Table → TableRecord) → ((t : Table) → pushed (f t) ≡ g t) → (ts : List Table) → map pushed (map f ts) ≡ map g ts
map_same f g h [] = refl
map_same f g h (t ∷ ts) = ap (λ (x : TableRecord). x ∷ map pushed (map f ts)) (h t) ∙ ap (λ (l : Records). g t ∷ l) (map_same f g h ts)

runs_pushed : (k : ℕ) (xs : List (List Table)) → map pushed (records_of_runs k xs) ≡ records_of_runs (suc k) xs
runs_pushed k [] = refl
runs_pushed k (x ∷ xs) =
    map-append pushed (map (record_of 0 k) x) (records_of_runs (suc k) xs)
    ∙ ap (λ (l : Records). l ++ map pushed (records_of_runs (suc k) xs)) (map_same (record_of 0 k) (record_of 0 (suc k)) (one_pushed k) x)
    ∙ ap (λ (l : Records). map (record_of 0 (suc k)) x ++ l) (runs_pushed (suc k) xs)

levels_pushed : (k : ℕ) (xs : List (List Table)) → map pushed (records_of_levels (suc k) xs) ≡ records_of_levels (suc k) xs
levels_pushed k [] = refl
levels_pushed k (x ∷ xs) =
    map-append pushed (map (record_of (suc k) 0) x) (records_of_levels (suc (suc k)) xs)
    ∙ ap (λ (l : Records). l ++ map pushed (records_of_levels (suc (suc k)) xs)) (map_same (record_of (suc k) 0) (record_of (suc k) 0) (deeper_pushed k) x)
    ∙ ap (λ (l : Records). map (record_of (suc k) 0) x ++ l) (levels_pushed (suc k) xs)

pub flushed_records : (levels : Levels) (new : List Table) → records_of (installed_levels levels Flush new) ≡ output_records Flush new ++ map pushed (records_of levels)
flushed_records levels new =
    append_assoc (map (record_of 0 0) new) (records_of_runs 1 levels.runs) (records_of_levels 1 levels.deeper)
    ∙ ap (λ (l : Records). map (record_of 0 0) new ++ l) (sym (
    map-append pushed (records_of_runs 0 levels.runs) (records_of_levels 1 levels.deeper)
    ∙ ap (λ (l : Records). l ++ map pushed (records_of_levels 1 levels.deeper)) (runs_pushed 0 levels.runs)
    ∙ ap (λ (l : Records). records_of_runs 1 levels.runs ++ l) (levels_pushed 0 levels.deeper)))

-- ---- a merge of the oldest runs of level 0

pub upper_records : (tables : ℕ) (runs : List (List Table))
    → records_of_runs 0 runs ≡ records_of_runs 0 (newer_runs tables runs) ++ records_of_runs (length (newer_runs tables runs)) (runs_holding tables runs)
upper_records tables runs =
    let count : 0 + length (newer_runs tables runs) ≡ length (newer_runs tables runs) = omega arith in
    ap (records_of_runs 0) (runs_split tables runs)
    ∙ runs_append 0 (newer_runs tables runs) (runs_holding tables runs)
    ∙ ap (λ (k : ℕ). records_of_runs 0 (newer_runs tables runs) ++ records_of_runs k (runs_holding tables runs)) count

-- a list of records in its parts
pub four_parts : (a b c d : Records) → (a ++ (b ++ c)) ++ d ≡ a ++ (b ++ (c ++ d))
four_parts a b c d = append_assoc a (b ++ c) d ∙ ap (λ (l : Records). a ++ l) (append_assoc b c d)

pub split_records : (level : ℕ) (r : KeyRange) (order : at_most r.first r.last ≡ true) (ts : List Table) → IsRun ts
    → map (record_of level 0) ts ≡ map (record_of level 0) (ending_before r ts) ++ (map (record_of level 0) (that_meet r ts) ++ map (record_of level 0) (beginning_behind r ts))
split_records level r order ts run =
    ap (map (record_of level 0)) (split_run r order ts run)
    ∙ map-append (record_of level 0) (ending_before r ts) (that_meet r ts ++ beginning_behind r ts)
    ∙ ap (λ (l : Records). map (record_of level 0) (ending_before r ts) ++ l) (map-append (record_of level 0) (that_meet r ts) (beginning_behind r ts))

pub put_records : (level : ℕ) (r : KeyRange) (new ts : List Table) → map (record_of level 0) (put_at r new ts) ≡ map (record_of level 0) (ending_before r ts) ++ (map (record_of level 0) new ++ map (record_of level 0) (beginning_behind r ts))
put_records level r new ts =
    map-append (record_of level 0) (ending_before r ts) (new ++ beginning_behind r ts)
    ∙ ap (λ (l : Records). map (record_of level 0) (ending_before r ts) ++ l) (map-append (record_of level 0) new (beginning_behind r ts))
