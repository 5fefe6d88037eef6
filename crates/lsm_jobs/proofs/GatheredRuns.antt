-- Tables split into runs, and the lists of entries that are read of them.
use Rattle.std.proofs.Common.{◌≡◌, ℕ, zero, suc, ◌+◌, ◌-◌, ◌<◌, ◌≤◌, Bool, true, false, cond, List, [], ◌∷◌, ◌++◌, length, map, take, drop, set, get_or, refl, sym, ap, subst, ◌∙◌, append_assoc, append-nil, arith}
use Rattle.std.proofs.lemmas.List.{drop_more, drop_all, drop-drop, drop-set-lt, get_or-drop, length-drop, length-map, map-set, take_all, take_more_set}
use Rattle.std.specs.declared.vec.Vec.{Vec}
use Rattle.lsm_codec.specs.Versions.{Version, AreOrdered}
use Rattle.lsm_merge.specs.Inputs.{AreRuns, items_of}
use Rattle.lsm_mem.specs.Versions.{joined}
use Rattle.lsm_merge.proofs.Sameness.{items_at}
use Rattle.lsm_levels.specs.Tables.{Table, versions_of}
use Rattle.lsm_levels.specs.Levels.{all_tables}
use Rattle.lsm_levels.specs.Pick.{Merge, inputs}
use Rattle.lsm_levels.proofs.LevelVersions.{all_versions}
use Rattle.lsm_table.proofs.Items.{Item}
use Rattle.lsm_jobs.specs.Numbers.{Inputs, merge_of}
use Rattle.lsm_jobs.specs.Slots.{Slot, Reading}
use Rattle.lsm_jobs.specs.Taking.{slot_with}
use Rattle.lsm_jobs.specs.Gathering.{ReadSoFar, none_gathered, input_ahead, blocks_left, data_blocks, ends_run, with_first, ascending_runs, run_length, items_between, runs_ahead, fronts, GoesOn, IsLonger, RunsGoOn}
use Rattle.lsm_jobs.proofs.GoingOn.{first_ordered, taken_back}

-- ---- the runs of tables

abbrev pub blank : List Table → List Version
blank run = []

-- the first run, and those of the tables after it
pub first_run : (t : Table) (rest : List Table) → ascending_runs (t ∷ rest) ≡ take (run_length (t ∷ rest)) (t ∷ rest) ∷ ascending_runs (drop (run_length (t ∷ rest)) (t ∷ rest))
first_run t [] = refl
first_run t (u ∷ rest) = by (ends_run t (u ∷ rest)) (first_run u rest)
  where
    by : (b : Bool) → ascending_runs (u ∷ rest) ≡ take (run_length (u ∷ rest)) (u ∷ rest) ∷ ascending_runs (drop (run_length (u ∷ rest)) (u ∷ rest))
        → with_first b t (ascending_runs (u ∷ rest)) ≡ take (cond b 1 (suc (run_length (u ∷ rest)))) (t ∷ u ∷ rest) ∷ ascending_runs (drop (cond b 1 (suc (run_length (u ∷ rest)))) (t ∷ u ∷ rest))
    by true e = refl
    by false e = ap (with_first false t) e

-- which begins with the first table
pub led_by : (t : Table) (rest : List Table) → (tail : List Table) × (more : List (List Table)) × (ascending_runs (t ∷ rest) ≡ (t ∷ tail) ∷ more)
led_by t rest = by (ends_run t rest) (ascending_runs rest)
  where
    by : (b : Bool) (runs : List (List Table)) → (tail : List Table) × (more : List (List Table)) × (with_first b t runs ≡ (t ∷ tail) ∷ more)
    by true runs = ([], runs, refl)
    by false [] = ([], [], refl)
    by false (run ∷ runs) = (run, runs, refl)

-- there is one where there is a run
pub split_first : (tables : List Table) → 0 < length (ascending_runs tables) → ascending_runs tables ≡ take (run_length tables) tables ∷ ascending_runs (drop (run_length tables) tables)
split_first [] some = absurd (omega (arith, some))
split_first (t ∷ rest) some = first_run t rest

pub split_run : (tables own others : List Table) (n : ℕ) → 0 < length (ascending_runs tables) → n ≡ run_length tables → own ≡ take n tables → others ≡ drop n tables → ascending_runs tables ≡ own ∷ ascending_runs others
split_run tables own others n some count front back =
    split_first tables some
    ∙ ap (λ (k : ℕ). take k tables ∷ ascending_runs (drop k tables)) (sym count)
    ∙ ap (λ (ts : List Table). ts ∷ ascending_runs (drop n tables)) (sym front)
    ∙ ap (λ (ts : List Table). own ∷ ascending_runs ts) (sym back)

pub run_within : (tables : List Table) → run_length tables ≤ length tables
run_within [] = omega arith
run_within (t ∷ rest) = by (ends_run t rest) (run_within rest)
  where
    by : (b : Bool) → run_length rest ≤ length rest → cond b 1 (suc (run_length rest)) ≤ suc (length rest)
    by true more = omega arith
    by false more = omega (arith, more)

-- their tables are these, in order
pub tables_of_runs : (tables : List Table) → all_tables (ascending_runs tables) ≡ tables
tables_of_runs [] = refl
tables_of_runs (t ∷ rest) = by (ends_run t rest) (ascending_runs rest) ∙ ap (λ (ts : List Table). t ∷ ts) (tables_of_runs rest)
  where
    by : (b : Bool) (runs : List (List Table)) → all_tables (with_first b t runs) ≡ t ∷ all_tables runs
    by true runs = refl
    by false [] = refl
    by false (run ∷ runs) = refl

-- and their versions are those of the tables
pub joined_runs : (tables : List Table) → joined (map versions_of (ascending_runs tables)) ≡ versions_of tables
joined_runs tables = sym (all_versions (ascending_runs tables)) ∙ ap versions_of (tables_of_runs tables)

-- ---- their number, counted from the first table on

-- with the next table, where it ends a run and where not
pub one_run : (t : Table) (rest : List Table) → ends_run t rest ≡ true → map blank (ascending_runs (t ∷ rest)) ≡ [] ∷ map blank (ascending_runs rest)
one_run t rest e = ap (λ (b : Bool). map blank (with_first b t (ascending_runs rest))) e

pub same_run : (t : Table) (rest : List Table) → ends_run t rest ≡ false → map blank (ascending_runs (t ∷ rest)) ≡ map blank (ascending_runs rest)
same_run t [] e = absurd cc
same_run t (u ∷ rest) e =
    ap (λ (b : Bool). map blank (with_first b t (ascending_runs (u ∷ rest)))) e
    ∙ ap (λ (runs : List (List Table)). map blank (with_first false t runs)) (first_run u rest)
    ∙ sym (ap (map blank) (first_run u rest))

pub one_length : (t : Table) (rest : List Table) → ends_run t rest ≡ true → run_length (t ∷ rest) ≡ 1
one_length t rest e = ap (λ (b : Bool). cond b 1 (suc (run_length rest))) e

pub more_length : (t : Table) (rest : List Table) → ends_run t rest ≡ false → run_length (t ∷ rest) ≡ suc (run_length rest)
more_length t rest e = ap (λ (b : Bool). cond b 1 (suc (run_length rest))) e

-- ---- before anything is read

pub none_ahead : (runs : List (List Table)) → runs_ahead 0 runs (map blank runs) ≡ map versions_of runs
none_ahead [] = refl
none_ahead (run ∷ runs) =
    let none : 0 - data_blocks run ≡ 0 = omega arith in
    ap (λ (n : ℕ). versions_of run ∷ runs_ahead n runs (map blank runs)) none ∙ ap (λ (l : List (List Version)). versions_of run ∷ l) (none_ahead runs)

-- so is a merge taken
pub merge_taken : (number level : ℕ) (upper lower tables : List Table) (cuts : List ℕ) (bottom : Bool) (m : Inputs) (g : ReadSoFar) → m ≡ record { level = level; upper = upper; lower = lower } → tables ≡ inputs (merge_of m) → g ≡ none_gathered tables cuts bottom
    → record { number = number; job = merge_of m; input = input_ahead (inputs (merge_of m)) g; stage = Reading (blocks_left (inputs (merge_of m)) g) } ≡ slot_with number [] cuts bottom (Merge level upper lower)
merge_taken number level upper lower tables cuts bottom m g is all none =
    let ts = upper ++ lower in
    let these : tables ≡ ts = all ∙ ap (λ (i : Inputs). inputs (merge_of i)) is in
    let nothing : g ≡ none_gathered ts cuts bottom = none ∙ ap (λ (l : List Table). none_gathered l cuts bottom) these in
    let count : data_blocks ts - 0 ≡ data_blocks ts = omega arith in
    let slot : Inputs → ReadSoFar → Slot = λ i h. record { number = number; job = merge_of i; input = input_ahead (inputs (merge_of i)) h; stage = Reading (blocks_left (inputs (merge_of i)) h) } in
    let with_runs : List (List Version) → ℕ → Slot = λ runs n. record { number = number; job = Merge level upper lower; input = record { runs = runs; cuts = cuts; bottom = bottom }; stage = Reading n } in
    ap (λ (i : Inputs). slot i g) is
    ∙ ap (slot (record { level = level; upper = upper; lower = lower })) nothing
    ∙ ap (λ (runs : List (List Version)). with_runs runs (data_blocks ts - 0)) (none_ahead (ascending_runs ts))
    ∙ ap (with_runs (map versions_of (ascending_runs ts))) count

pub none_ordered : (runs : List (List Table)) → AreRuns (map blank runs)
none_ordered [] = tt
none_ordered (run ∷ runs) = (tt, none_ordered runs)

-- ---- one run after the other

module _ (sectors : List (List ℕ)) (area from0 to0 : ℕ) (runs0 : List (List Table)) (old : List (List Version)) where
  -- What the runs come to from the i-th on is what all come to.
  pub record SoFar (i from to : ℕ) (runs : List (List Table)) (now : List (List Version)) : Type 0 where
    pub there : (news : List (List Version)) → RunsGoOn sectors area from to runs (drop i old) news → RunsGoOn sectors area from0 to0 runs0 old (take i now ++ news)
    pub back : ((news : List (List Version)) → RunsGoOn sectors area from to runs (drop i old) news → ⊥) → (news : List (List Version)) → RunsGoOn sectors area from0 to0 runs0 old news → ⊥

  pub begun : SoFar 0 from0 to0 runs0 old
  begun = record { there = λ news h. h; back = λ none news h. none news h }

  module _ (i from to : ℕ) (runs rest : List (List Table)) (own : List Table) (now : List (List Version)) (run : List Version) (first : runs ≡ own ∷ rest) (front : drop i old ≡ run ∷ drop (i + 1) old) (so_far : SoFar i from to runs now) where
    abbrev its_items : List Item
    its_items = items_between sectors area from to own

    parted : (news : List (List Version)) → RunsGoOn sectors area from to (own ∷ rest) (run ∷ drop (i + 1) old) news → RunsGoOn sectors area from to runs (drop i old) news
    parted news h = subst (λ (rs : List (List Table)). RunsGoOn sectors area from to rs (drop i old) news) (sym first) (subst (λ (l : List (List Version)). RunsGoOn sectors area from to (own ∷ rest) l news) (sym front) h)

    whole : (news : List (List Version)) → RunsGoOn sectors area from to runs (drop i old) news → RunsGoOn sectors area from to (own ∷ rest) (run ∷ drop (i + 1) old) news
    whole news h = subst (λ (l : List (List Version)). RunsGoOn sectors area from to (own ∷ rest) l news) front (subst (λ (rs : List (List Table)). RunsGoOn sectors area from to rs (drop i old) news) first h)

    pub run_added : (new : List Version) → i < length now → GoesOn run its_items new → SoFar (i + 1) (from - data_blocks own) (to - data_blocks own) rest (set now i new)
    run_added new within goes = record {
      there = λ news h.
          let all = so_far.there (new ∷ news) (parted (new ∷ news) (goes, h)) in
          subst (λ (l : List (List Version)). RunsGoOn sectors area from0 to0 runs0 old l) (sym (ap (λ (l : List (List Version)). l ++ news) (take_more_set now i new within) ∙ append_assoc (take i now) (new ∷ []) news)) all;
      back = λ none. so_far.back (λ news h. by none news (whole news h));
    }
      where
        by : ((news : List (List Version)) → RunsGoOn sectors area (from - data_blocks own) (to - data_blocks own) rest (drop (i + 1) old) news → ⊥) → (news : List (List Version)) → RunsGoOn sectors area from to (own ∷ rest) (run ∷ drop (i + 1) old) news → ⊥
        by none [] h = h
        by none (new ∷ news) h = none news h.1

    pub run_refused : ((new : List Version) → GoesOn run its_items new → ⊥) → (news : List (List Version)) → RunsGoOn sectors area from0 to0 runs0 old news → ⊥
    run_refused none = so_far.back (λ news h. by news (whole news h))
      where
        by : (news : List (List Version)) → RunsGoOn sectors area from to (own ∷ rest) (run ∷ drop (i + 1) old) news → ⊥
        by [] h = h
        by (new ∷ news) h = none new h.0

  -- after the last run
  pub runs_ended : (i from to : ℕ) (runs : List (List Table)) (now : List (List Version)) → length old ≤ i → length now ≡ length old → length runs ≡ 0 → SoFar i from to runs now → RunsGoOn sectors area from0 to0 runs0 old now
  runs_ended i from to [] now past count none so_far =
      let end : drop i old ≡ [] = drop_all i old past in
      let all : take i now ++ [] ≡ now = append-nil (take i now) ∙ take_all i now (omega (arith, past, count)) in
      subst (λ (l : List (List Version)). RunsGoOn sectors area from0 to0 runs0 old l) all (so_far.there [] (subst (λ (l : List (List Version)). RunsGoOn sectors area from to [] l []) (sym end) tt))
  runs_ended i from to (run ∷ runs) now past count none so_far = absurd (omega (arith, none))

-- ---- what the lists were before

-- with one list longer
pub longer_at : (old now : List (List Version)) (i : ℕ) (run new : List Version) → i < length now → run ≡ get_or now i run → i < length old → run ≡ get_or old i run → IsLonger run new → fronts (map length old) now ≡ old → fronts (map length old) (set now i new) ≡ old
longer_at [] now i run new within at inside here longer e = refl
longer_at (o ∷ old) [] i run new within at inside here longer e = absurd (omega (arith, within))
longer_at (o ∷ old) (x ∷ now) zero run new within at inside here longer e =
    let rest : fronts (map length old) now ≡ old = cc in
    let front : take (length o) new ≡ o = taken_back o new (subst (λ (l : List Version). IsLonger l new) here longer) in
    ap (λ (l : List Version). l ∷ fronts (map length old) now) front ∙ ap (λ (ls : List (List Version)). o ∷ ls) rest
longer_at (o ∷ old) (x ∷ now) (suc i) run new within at inside here longer e =
    let rest : fronts (map length old) now ≡ old = cc in
    let front : take (length o) x ≡ o = cc in
    ap (λ (l : List Version). l ∷ fronts (map length old) (set now i new)) front ∙ ap (λ (ls : List (List Version)). o ∷ ls) (longer_at old now i run new (omega (arith, within)) at (omega (arith, inside)) here longer rest)

pub as_they_are : (runs : List (List Version)) → fronts (map length runs) runs ≡ runs
as_they_are [] = refl
as_they_are (run ∷ runs) = ap (λ (l : List Version). l ∷ fronts (map length runs) runs) (take_all (length run) run (omega arith)) ∙ ap (λ (ls : List (List Version)). run ∷ ls) (as_they_are runs)

-- what is untouched from a place on is so after it
pub untouched_more : (old now : List (List Version)) (i : ℕ) (new : List Version) → drop i now ≡ drop i old → drop (i + 1) (set now i new) ≡ drop (i + 1) old
untouched_more old now i new e = drop-set-lt (i + 1) now i new (omega arith) ∙ sym (drop-drop 1 i now) ∙ ap (drop 1) e ∙ drop-drop 1 i old

-- so the list there is the old one
pub still_there : (old now : List (List Version)) (i : ℕ) (run : List Version) → i < length now → drop i now ≡ drop i old → run ≡ get_or now i run → (run ≡ get_or old i run) × (i < length old) × (drop i old ≡ run ∷ drop (i + 1) old)
still_there old now i run within e at =
    let inside : i < length old = omega (arith, within, length-drop i now, length-drop i old, ap (λ (l : List (List Version)). length l) e) in
    let here : i + 0 ≡ i = omega arith in
    let same : run ≡ get_or old i run =
    at
    ∙ sym (get_or-drop i now 0 run ∙ ap (λ (n : ℕ). get_or now n run) here)
    ∙ ap (λ (l : List (List Version)). get_or l 0 run) e
    ∙ get_or-drop i old 0 run
    ∙ ap (λ (n : ℕ). get_or old n run) here in
    (same, inside, drop_more old i run inside ∙ ap (λ (l : List Version). l ∷ drop (i + 1) old) (sym same))

-- ---- lists in vectors

module _ {Z : Type 0} (vectors : List (Vec Version Z)) (i : ℕ) where
  pub set_items : (v : Vec Version Z) → items_of (set vectors i v) ≡ set (items_of vectors) i v.items
  set_items v = map-set (λ (u : Vec Version Z). u.items) vectors i v

  pub vector_at : (v : Vec Version Z) → i < length vectors → v ≡ get_or vectors i v → v.items ≡ get_or (items_of vectors) i v.items
  vector_at v within at = items_at vectors i v within at

  pub count_items : length (items_of vectors) ≡ length vectors
  count_items = length-map vectors (λ (u : Vec Version Z). u.items)

pub ordered_at : {Z : Type 0} (vectors : List (Vec Version Z)) (i : ℕ) (d : Vec Version Z) → i < length vectors → AreRuns (items_of vectors) → AreOrdered (get_or vectors i d).items
ordered_at [] i d within all = absurd (omega (arith, within))
ordered_at (v ∷ vectors) zero d within all = all.0
ordered_at (v ∷ vectors) (suc i) d within all = ordered_at vectors i d (omega (arith, within)) all.1

-- ---- of each list its number of entries

-- what is cut so far, and what is left to cut
pub record CutTo (lengths : List ℕ) (old : List (List Version)) (i : ℕ) (now : List (List Version)) : Type 0 where
  pub same : take i now ++ fronts (drop i lengths) (drop i old) ≡ fronts lengths old
  pub rest : drop i now ≡ drop i old

pub none_cut : (lengths : List ℕ) (old : List (List Version)) → CutTo lengths old 0 old
none_cut lengths old = record { same = refl; rest = refl }

pub one_cut : (lengths : List ℕ) (old now : List (List Version)) (i n : ℕ) (run new : List Version) → i < length now → i < length lengths → n ≡ get_or lengths i n → run ≡ get_or now i run → new ≡ take n run → CutTo lengths old i now → CutTo lengths old (i + 1) (set now i new)
one_cut lengths old now i n run new within inside counted at is so_far =
    let here = still_there old now i run within so_far.rest at in
    let count : drop i lengths ≡ n ∷ drop (i + 1) lengths = drop_more lengths i n inside ∙ ap (λ (m : ℕ). m ∷ drop (i + 1) lengths) (sym counted) in
    record {
      same =
          ap (λ (l : List (List Version)). l ++ fronts (drop (i + 1) lengths) (drop (i + 1) old)) (take_more_set now i new within)
          ∙ append_assoc (take i now) (new ∷ []) (fronts (drop (i + 1) lengths) (drop (i + 1) old))
          ∙ ap (λ (l : List Version). take i now ++ l ∷ fronts (drop (i + 1) lengths) (drop (i + 1) old)) is
          ∙ sym (ap (λ (ns : List ℕ). take i now ++ fronts ns (drop i old)) count ∙ ap (λ (l : List (List Version)). take i now ++ fronts (n ∷ drop (i + 1) lengths) l) here.2)
          ∙ so_far.same;
      rest = untouched_more old now i new so_far.rest;
    }

pub all_cut : (lengths : List ℕ) (old now : List (List Version)) (i : ℕ) → length lengths ≤ i → length now ≡ length lengths → CutTo lengths old i now → now ≡ fronts lengths old
all_cut lengths old now i past count so_far =
    let none : fronts (drop i lengths) (drop i old) ≡ [] = ap (λ (ns : List ℕ). fronts ns (drop i old)) (drop_all i lengths past) in
    sym (ap (λ (l : List (List Version)). take i now ++ l) none ∙ append-nil (take i now) ∙ take_all i now (omega (arith, past, count))) ∙ so_far.same

pub fronts_ordered : (lengths : List ℕ) (runs : List (List Version)) → AreRuns runs → AreRuns (fronts lengths runs)
fronts_ordered [] runs all = tt
fronts_ordered (n ∷ lengths) [] all = tt
fronts_ordered (n ∷ lengths) (run ∷ runs) all = (first_ordered n run all.0, fronts_ordered lengths runs all.1)

-- a vector's list, written back whole
pub written_back : {X : Type 0} (new old : List X) (n : ℕ) → n ≡ length old → length new ≡ length old → take n (new ++ drop (length new) old) ≡ new
written_back new old n all count =
    ap (λ l. take n (new ++ l)) (drop_all (length new) old (omega (arith, count))) ∙ ap (take n) (append-nil new) ∙ take_all n new (omega (arith, all, count))
