-- The oldest runs of level 0, by the number of their tables.
use Rattle.std.proofs.Common.{◌≡◌, ◌⊎◌, inl, inr, ⊎_elim, ℕ, zero, suc, ◌+◌, ◌-◌, ◌<◌, ◌≤◌, Bool, true, false, leb, cond, List, [], ◌∷◌, ◌++◌, length, take, drop, refl, sym, ap, ◌∙◌, subst, arith, append_assoc, append-nil}
use Rattle.std.specs.List.{AllByRecursion}
use Rattle.std.proofs.lemmas.Bool.{leb-true, leb-false, le-leb, lt-leb}
use Rattle.std.proofs.lemmas.List.{length-append, length-drop}
use Rattle.lsm_levels.specs.Among.{IsAmong}
use Rattle.lsm_levels.specs.Tables.{Table}
use Rattle.lsm_levels.specs.Levels.{all_tables, newer_runs, oldest_runs}
use Rattle.lsm_levels.specs.Held.{AreOldest}
use Rattle.lsm_levels.proofs.Members.{among_left, among_right, among_either}

-- runs have a table at least
abbrev pub HaveTables : List (List Table) → Type 0
HaveTables runs = AllByRecursion (λ run. 0 < length run) runs

pub tables_append : (xs ys : List (List Table)) → all_tables (xs ++ ys) ≡ all_tables xs ++ all_tables ys
tables_append [] ys = refl
tables_append (x ∷ xs) ys = ap (λ (ts : List Table). x ++ ts) (tables_append xs ys) ∙ sym (append_assoc x (all_tables xs) (all_tables ys))

pub all_parts : (P : List Table → Type 0) (xs ys : List (List Table)) → AllByRecursion P (xs ++ ys) → AllByRecursion P xs × AllByRecursion P ys
all_parts P [] ys h = (tt, h)
all_parts P (x ∷ xs) ys h = let later = all_parts P xs ys h.1 in ((h.0, later.0), later.1)

-- ---- the newer runs

-- what holds of all runs holds of these
pub all_newer : (P : List Table → Type 0) (n : ℕ) (runs : List (List Table)) → AllByRecursion P runs → AllByRecursion P (newer_runs n runs)
all_newer P n [] h = h
all_newer P n (run ∷ rest) h = by (all_newer P n rest h.1) (leb (length (all_tables (run ∷ rest))) n)
  where
    by : AllByRecursion P (newer_runs n rest) → (b : Bool) → AllByRecursion P (cond b [] (run ∷ newer_runs n rest))
    by later true = tt
    by later false = (h.0, later)

-- their tables are of the runs
pub newer_among : (n : ℕ) (runs : List (List Table)) (t : Table) → IsAmong t (all_tables (newer_runs n runs)) → IsAmong t (all_tables runs)
newer_among n [] t a = a
newer_among n (run ∷ rest) t a = by (newer_among n rest t) (leb (length (all_tables (run ∷ rest))) n) a
  where
    by : (IsAmong t (all_tables (newer_runs n rest)) → IsAmong t (all_tables rest)) → (b : Bool) → IsAmong t (all_tables (cond b [] (run ∷ newer_runs n rest))) → IsAmong t (run ++ all_tables rest)
    by later true b = absurd b
    by later false b = ⊎_elim (λ c. among_left t run (all_tables rest) c) (λ c. among_right t run (all_tables rest) (later c)) (among_either t run (all_tables (newer_runs n rest)) b)

-- and there are no more of them
pub newer_few : (n : ℕ) (runs : List (List Table)) → length (newer_runs n runs) ≤ length runs
newer_few n [] = omega arith
newer_few n (run ∷ rest) = by (newer_few n rest) (leb (length (all_tables (run ∷ rest))) n)
  where
    by : length (newer_runs n rest) ≤ length rest → (b : Bool) → length (cond b [] (run ∷ newer_runs n rest)) ≤ length (run ∷ rest)
    by later true = omega arith
    by later false = omega (arith, later)

none_kept : (oldest : List (List Table)) → newer_runs (length (all_tables oldest)) oldest ≡ []
none_kept [] = refl
none_kept (run ∷ rest) =
    let n = length (all_tables (run ∷ rest)) in
    ap (λ b. cond b [] (run ∷ newer_runs n rest)) (le-leb n n (omega arith))

-- those before the oldest ones, by the number of these tables
pub newer_are : (newer oldest : List (List Table)) → HaveTables newer → newer_runs (length (all_tables oldest)) (newer ++ oldest) ≡ newer
newer_are [] oldest h = none_kept oldest
newer_are (run ∷ newer) oldest h =
    let n = length (all_tables oldest) in
    let rest = newer ++ oldest in
    let more : n < length (all_tables (run ∷ rest)) =
    omega (arith, h.0, length-append run (all_tables rest), ap length (tables_append newer oldest), length-append (all_tables newer) (all_tables oldest)) in
    ap (λ b. cond b [] (run ∷ newer_runs n rest)) (lt-leb (length (all_tables (run ∷ rest))) n more) ∙ ap (λ (rs : List (List Table)). run ∷ rs) (newer_are newer oldest h.1)

-- a run that holds no more tables than are looked for is one of the oldest
without_last : (left : List (List Table)) (run : List Table) (n : ℕ) → length run ≤ n → newer_runs n (left ++ run ∷ []) ≡ newer_runs (n - length run) left
without_last [] run n le = ap (λ b. cond b [] (run ∷ [])) (le-leb (length (run ++ [])) n (omega (arith, le, ap length (append-nil run))))
without_last (x ∷ left) run n le =
    let m = n - length run in
    let whole = length (all_tables (x ∷ left ++ run ∷ [])) in
    let less = length (all_tables (x ∷ left)) in
    let adds : whole ≡ less + length run =
    ap length (tables_append (x ∷ left) (run ∷ [])) ∙ ap (λ (ts : List Table). length (all_tables (x ∷ left) ++ ts)) (append-nil run) ∙ length-append (all_tables (x ∷ left)) run in
    ap (λ b. cond b [] (x ∷ newer_runs n (left ++ run ∷ []))) (same_test whole less n m adds le refl)
    ∙ ap (λ (rs : List (List Table)). cond (leb less m) [] (x ∷ rs)) (without_last left run n le)
  where
    same_test : (a b k m : ℕ) → a ≡ b + length run → length run ≤ k → k - length run ≡ m → leb a k ≡ leb b m
    same_test a b k m e f g = by (leb b m) refl
      where
        by : (x : Bool) → leb b m ≡ x → leb a k ≡ x
        by true h = let fits = leb-true b m h in le-leb a k (omega (arith, e, f, g, fits))
        by false h = let over = leb-false b m h in lt-leb a k (omega (arith, e, f, g, over))

-- and no run is, where the last one holds more
with_last : (left : List (List Table)) (run : List Table) (n : ℕ) → n < length run → newer_runs n (left ++ run ∷ []) ≡ left ++ run ∷ []
with_last [] run n lt = ap (λ b. cond b [] (run ∷ [])) (lt-leb (length (run ++ [])) n (omega (arith, lt, ap length (append-nil run))))
with_last (x ∷ left) run n lt =
    let whole = length (all_tables (x ∷ left ++ run ∷ [])) in
    let adds : whole ≡ length (all_tables (x ∷ left)) + length run =
    ap length (tables_append (x ∷ left) (run ∷ [])) ∙ ap (λ (ts : List Table). length (all_tables (x ∷ left) ++ ts)) (append-nil run) ∙ length-append (all_tables (x ∷ left)) run in
    ap (λ b. cond b [] (x ∷ newer_runs n (left ++ run ∷ []))) (lt-leb whole n (omega (arith, adds, lt))) ∙ ap (λ (rs : List (List Table)). x ∷ rs) (with_last left run n lt)

-- a search from the oldest run on for the runs newer than the last `wanted` tables: `tables` of these and the runs `left` are still to do
pub record IsKept (left runs : List (List Table)) (kept tables wanted : ℕ) : Type 0 where
  pub number : kept ≡ length left
  pub first : take kept runs ≡ left
  pub same : newer_runs tables left ≡ newer_runs wanted runs

module _ (left more runs : List (List Table)) (run : List Table) (kept tables wanted : ℕ) (k : IsKept more runs kept tables wanted) (parts : more ≡ left ++ run ∷ []) where
  -- it ends at a run that holds more
  pub kept_here : tables < length run → take kept runs ≡ newer_runs wanted runs
  kept_here lt = k.first ∙ parts ∙ sym (with_last left run tables lt) ∙ ap (newer_runs tables) (sym parts) ∙ k.same

  -- and goes on after any other
  pub kept_before : (rest : ℕ) → length run ≤ tables → rest ≡ tables - length run → IsKept left runs (kept - 1) rest wanted
  kept_before rest le is = record {
    number = number;
    first = ap (λ (n : ℕ). take n runs) number ∙ front runs left (ap (λ (n : ℕ). take n runs) (sym all) ∙ k.first ∙ parts);
    same = ap (λ (n : ℕ). newer_runs n left) is ∙ sym (without_last left run tables le) ∙ ap (newer_runs tables) (sym parts) ∙ k.same;
  }
    where
      all : kept ≡ suc (length left)
      all = omega (arith, k.number, ap length parts, length-append left (run ∷ []))

      number : kept - 1 ≡ length left
      number = omega (arith, k.number, ap length parts, length-append left (run ∷ []))

      cons : (a b : List Table) (xs ys : List (List Table)) → a ∷ xs ≡ b ∷ ys → (a ≡ b) × (xs ≡ ys)
      cons a b xs ys e = (cc, cc)

      front : (rs ls : List (List Table)) → take (suc (length ls)) rs ≡ ls ++ run ∷ [] → take (length ls) rs ≡ ls
      front rs [] e = refl
      front [] (x ∷ ls) e = absurd cc
      front (r ∷ rs) (x ∷ ls) e =
          let same = cons r x (take (suc (length ls)) rs) (ls ++ run ∷ []) e in
          ap (λ (l : List Table). l ∷ take (length ls) rs) same.0 ∙ ap (λ (l : List (List Table)). x ∷ l) (front rs ls same.1)

-- ---- the oldest runs

-- what holds of all runs holds of both parts
pub oldest_all : (P : List Table → Type 0) (runs : List (List Table)) (tables : List Table) (o : AreOldest runs tables) → AllByRecursion P runs → AllByRecursion P o.newer × AllByRecursion P o.oldest
oldest_all P runs tables o h = all_parts P o.newer o.oldest (subst (AllByRecursion P) o.split h)

pub newer_oldest : (runs : List (List Table)) (tables : List Table) → HaveTables runs → (o : AreOldest runs tables) → newer_runs (length tables) runs ≡ o.newer
newer_oldest runs tables some o =
    ap (λ (ts : List Table). newer_runs (length ts) runs) o.all
    ∙ ap (newer_runs (length (all_tables o.oldest))) o.split
    ∙ newer_are o.newer o.oldest (oldest_all (λ run. 0 < length run) runs tables o some).0

-- their tables are of the runs
pub oldest_among : (runs : List (List Table)) (tables : List Table) → AreOldest runs tables → (t : Table) → IsAmong t tables → IsAmong t (all_tables runs)
oldest_among runs tables o t a =
    subst (IsAmong t) (sym (ap all_tables o.split ∙ tables_append o.newer o.oldest))
    (among_right t (all_tables o.newer) (all_tables o.oldest) (subst (IsAmong t) o.all a))

-- a table is of the newer runs, or of the oldest
pub newer_or_oldest : (runs : List (List Table)) (tables : List Table) → HaveTables runs → AreOldest runs tables → (t : Table) → IsAmong t (all_tables runs)
    → IsAmong t (all_tables (newer_runs (length tables) runs)) ⊎ IsAmong t tables
newer_or_oldest runs tables some o t a = ⊎_elim
    (λ b. inl (subst (λ (rs : List (List Table)). IsAmong t (all_tables rs)) (sym (newer_oldest runs tables some o)) b))
    (λ b. inr (subst (IsAmong t) (sym o.all) b))
    (among_either t (all_tables o.newer) (all_tables o.oldest) (subst (IsAmong t) (ap all_tables o.split ∙ tables_append o.newer o.oldest) a))

-- the `count` oldest runs
pub oldest_are : (count : ℕ) (runs : List (List Table)) → 1 ≤ count → count ≤ length runs → AreOldest runs (all_tables (oldest_runs count runs))
oldest_are count runs some there = record {
  newer = take (length runs - count) runs;
  oldest = oldest_runs count runs;
  split = parts (length runs - count) runs;
  one = omega (arith, some, there, length-drop (length runs - count) runs);
  all = refl;
}
  where
    parts : (n : ℕ) (rs : List (List Table)) → rs ≡ take n rs ++ drop n rs
    parts zero rs = refl
    parts (suc n) [] = refl
    parts (suc n) (run ∷ rest) = ap (λ (xs : List (List Table)). run ∷ xs) (parts n rest)

-- runs have a table
a_table : (runs : List (List Table)) → 1 ≤ length runs → HaveTables runs → (t : Table) × IsAmong t (all_tables runs)
a_table [] one some = absurd (omega (arith, one))
a_table ([] ∷ rest) one some = absurd (omega (arith, some.0))
a_table ((t ∷ run) ∷ rest) one some = (t, inl refl)

-- the oldest runs have one
pub oldest_some : (runs : List (List Table)) (tables : List Table) → HaveTables runs → AreOldest runs tables → 0 < length tables
oldest_some runs tables some o =
    let t = a_table o.oldest o.one (oldest_all (λ run. 0 < length run) runs tables o some).1 in
    by tables t.0 (subst (IsAmong t.0) (sym o.all) t.1)
  where
    by : (ts : List Table) (t : Table) → IsAmong t ts → 0 < length ts
    by [] t a = absurd a
    by (u ∷ rest) t a = omega arith

-- two ways to take the oldest runs share a table
ends_share : (xs ys zs ws : List (List Table)) → xs ++ ys ≡ zs ++ ws → 1 ≤ length ys → 1 ≤ length ws → HaveTables ys → HaveTables ws
    → (t : Table) × IsAmong t (all_tables ys) × IsAmong t (all_tables ws)
ends_share [] ys zs ws same one two some others =
    let t = a_table ws two others in
    (t.0, subst (λ (rs : List (List Table)). IsAmong t.0 (all_tables rs)) (sym same) (subst (IsAmong t.0) (sym (tables_append zs ws)) (among_right t.0 (all_tables zs) (all_tables ws) t.1)), t.1)
ends_share (x ∷ xs) ys [] ws same one two some others =
    let t = a_table ys one some in
    (t.0, t.1, subst (λ (rs : List (List Table)). IsAmong t.0 (all_tables rs)) same (subst (IsAmong t.0) (sym (tables_append (x ∷ xs) ys)) (among_right t.0 (all_tables (x ∷ xs)) (all_tables ys) t.1)))
ends_share (x ∷ xs) ys (z ∷ zs) ws same one two some others = ends_share xs ys zs ws (behind x z (xs ++ ys) (zs ++ ws) same) one two some others
  where
    behind : (a b : List Table) (xs ys : List (List Table)) → a ∷ xs ≡ b ∷ ys → xs ≡ ys
    behind a b xs ys e = cc

pub oldest_share : (runs : List (List Table)) (xs ys : List Table) → HaveTables runs → AreOldest runs xs → AreOldest runs ys → (t : Table) × IsAmong t xs × IsAmong t ys
oldest_share runs xs ys some o p =
    let Some = λ (run : List Table). 0 < length run in
    let t = ends_share o.newer o.oldest p.newer p.oldest (sym o.split ∙ p.split) o.one p.one (oldest_all Some runs xs o some).1 (oldest_all Some runs ys p some).1 in
    (t.0, subst (IsAmong t.0) (sym o.all) t.1, subst (IsAmong t.0) (sym p.all) t.2)
