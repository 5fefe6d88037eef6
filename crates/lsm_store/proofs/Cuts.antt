-- The cuts of a job that is taken.
use Rattle.std.proofs.Common.{◌≡◌, ◌⊎◌, inl, inr, ⊎_elim, ℕ, suc, ◌+◌, ◌-◌, ◌<◌, ◌≤◌, ◌==◌, Bool, true, false, cond, ◌&&◌, eqb, List, [], ◌∷◌, ◌++◌, map, length, refl, sym, ap, ◌∙◌, subst, arith}
use Rattle.std.specs.Prelude.{Contains}
use Rattle.std.specs.List.{AllByRecursion, slice_get}
use Rattle.std.proofs.lemmas.Bool.{cases_lt, eqb-true, eqb-false, lt-ltb}
use Rattle.std.proofs.lemmas.List.{length-append, length-map}
use Rattle.lsm_merge.specs.Inputs.{is_ascending}
use Rattle.lsm_levels.specs.Among.{IsAmong}
use Rattle.lsm_levels.proofs.Members.{among_left, among_right}
use Rattle.lsm_machine.specs.JobAnswers.{AreRising, CutsLaw}
use Rattle.lsm_store.specs.LiveMarks.{last_count, end_with}
use Rattle.lsm_store.specs.Memory.{mark_of}
use Rattle.lsm_store.specs.declared.snapshots.Mark.{Mark}
use Rattle.lsm_machine.specs.RecoveryPoints.{batch_count}
use Rattle.lsm_machine.specs.State.{State, LiveSnapshot}
use Rattle.lsm_machine.specs.Work.{with_count, each_once, counts_of, cuts_of}
use Rattle.lsm_machine.proofs.Membership.{in_head, in_tail}

above_with : (k n : ℕ) (ns : List ℕ) → k ≤ n → AllByRecursion (λ m. k ≤ m) ns → AllByRecursion (λ m. k ≤ m) (with_count n ns)
above_with k n [] le all = (le, tt)
above_with k n (m ∷ rest) le all = by (eqb n m)
  where
    by : (b : Bool) → AllByRecursion (λ x. k ≤ x) (cond b (m ∷ rest) (n ∷ (m ∷ rest)))
    by true = all
    by false = (le, all)

above_once : (k : ℕ) (ns : List ℕ) → AllByRecursion (λ m. k ≤ m) ns → AllByRecursion (λ m. k ≤ m) (each_once ns)
above_once k [] all = tt
above_once k (n ∷ ns) all = above_with k n (each_once ns) all.0 (above_once k ns all.1)

ascending_with : (n : ℕ) (ns : List ℕ) → is_ascending ns ≡ true → AllByRecursion (λ m. n ≤ m) ns → is_ascending (with_count n ns) ≡ true
ascending_with n [] h all = refl
ascending_with n (m ∷ rest) h all = by (eqb n m) refl
  where
    by : (b : Bool) → eqb n m ≡ b → is_ascending (cond b (m ∷ rest) (n ∷ (m ∷ rest))) ≡ true
    by true e = h
    by false e =
        let le = all.0 in
        let other = eqb-false n m e in
        let below : n < m = less le other in
        ap (λ (b : Bool). b && is_ascending (m ∷ rest)) (lt-ltb n m below) ∙ h
      where
        less : n ≤ m → (n ≡ m → ⊥) → n < m
        less le other = ⊎_elim (λ (lt : n < m). lt) (λ (ge : m ≤ n). absurd (other (let same : n ≡ m = omega (arith, le, ge) in same))) (cases_lt n m)

ascending_once : (ns : List ℕ) → AreRising ns → is_ascending (each_once ns) ≡ true
ascending_once [] rising = refl
ascending_once (n ∷ ns) rising = ascending_with n (each_once ns) (ascending_once ns rising.1) (above_once n ns rising.0)

short_with : (n : ℕ) (ns : List ℕ) → (1 ≤ length (with_count n ns)) × (length (with_count n ns) ≤ suc (length ns))
short_with n [] = (omega arith, omega arith)
short_with n (m ∷ rest) = by (eqb n m)
  where
    by : (b : Bool) → (1 ≤ length (cond b (m ∷ rest) (n ∷ (m ∷ rest)))) × (length (cond b (m ∷ rest) (n ∷ (m ∷ rest))) ≤ suc (length (m ∷ rest)))
    by true = (omega arith, omega arith)
    by false = (omega arith, omega arith)

short_once : (ns : List ℕ) → length (each_once ns) ≤ length ns
short_once [] = omega arith
short_once (n ∷ ns) = let one = short_with n (each_once ns) in let more = short_once ns in omega (arith, one.1, more)

some_once : (ns : List ℕ) → 1 ≤ length ns → 1 ≤ length (each_once ns)
some_once [] h = h
some_once (n ∷ ns) h = (short_with n (each_once ns)).0

pub cuts_law : CutsLaw
cuts_law s few rising =
    let counts = map (λ (x : LiveSnapshot). x.point.count) s.snapshots in
    let many : length (counts_of s) ≡ length s.snapshots + 1 = omega (arith, length-append counts (batch_count s.points ∷ []), length-map s.snapshots (λ (x : LiveSnapshot). x.point.count)) in
    let short = short_once (counts_of s) in
    record {
      some = some_once (counts_of s) (omega (arith, many));
      at_most = omega (arith, short, many, few);
      ascending = ascending_once (counts_of s) rising;
    }

-- ---- which counts are cuts

among_contained : (n : ℕ) (ns : List ℕ) → IsAmong n ns → Contains ns n
among_contained n [] a = absurd a
among_contained n (m ∷ ns) (inl e) = subst (λ (k : ℕ). Contains (k ∷ ns) n) e (in_head n ns)
among_contained n (m ∷ ns) (inr a) = in_tail m n ns (among_contained n ns a)

in_counts : (n k : ℕ) (ns : List ℕ) → (n ≡ k) ⊎ IsAmong n ns → IsAmong n (with_count k ns)
in_counts n k [] (inl e) = inl e
in_counts n k [] (inr a) = absurd a
in_counts n k (x ∷ rest) h = by (eqb k x) refl h
  where
    by : (b : Bool) → eqb k x ≡ b → (n ≡ k) ⊎ IsAmong n (x ∷ rest) → IsAmong n (cond b (x ∷ rest) (k ∷ (x ∷ rest)))
    by true e (inl f) = inl (f ∙ eqb-true k x e)
    by true e (inr a) = a
    by false e (inl f) = inl f
    by false e (inr a) = inr a

in_each_once : (n : ℕ) (ns : List ℕ) → IsAmong n ns → IsAmong n (each_once ns)
in_each_once n [] a = absurd a
in_each_once n (x ∷ rest) (inl e) = in_counts n x (each_once rest) (inl e)
in_each_once n (x ∷ rest) (inr a) = in_counts n x (each_once rest) (inr (in_each_once n rest a))

in_mapped : (snapshot : LiveSnapshot) (all : List LiveSnapshot) → IsAmong snapshot all → IsAmong snapshot.point.count (map (λ (x : LiveSnapshot). x.point.count) all)
in_mapped snapshot [] a = absurd a
in_mapped snapshot (x ∷ rest) (inl e) = inl (ap (λ (y : LiveSnapshot). y.point.count) e)
in_mapped snapshot (x ∷ rest) (inr a) = inr (in_mapped snapshot rest a)

pub present_cut : (s : State) → Contains (cuts_of s) (batch_count s.points)
present_cut s =
    let counts = map (λ (x : LiveSnapshot). x.point.count) s.snapshots in
    among_contained (batch_count s.points) (cuts_of s) (in_each_once (batch_count s.points) (counts_of s) (among_right (batch_count s.points) counts (batch_count s.points ∷ []) (inl refl)))

pub snapshot_cut : (s : State) (snapshot : LiveSnapshot) → IsAmong snapshot s.snapshots → Contains (cuts_of s) snapshot.point.count
snapshot_cut s snapshot a =
    let counts = map (λ (x : LiveSnapshot). x.point.count) s.snapshots in
    among_contained snapshot.point.count (cuts_of s) (in_each_once snapshot.point.count (counts_of s) (among_left snapshot.point.count counts (batch_count s.points ∷ []) (in_mapped snapshot s.snapshots a)))

-- ---- counts that rise

all_above : (k : ℕ) (ns : List ℕ) (n m : ℕ) → n ≤ m → AllByRecursion (λ x. k ≤ x) (ns ++ n ∷ []) → AllByRecursion (λ x. k ≤ x) (ns ++ m ∷ [])
all_above k [] n m le all = (let low = all.0 in omega (arith, low, le), tt)
all_above k (x ∷ ns) n m le all = (all.0, all_above k ns n m le all.1)

-- to a greater count at the end
pub rising_to : (ns : List ℕ) (n m : ℕ) → n ≤ m → AreRising (ns ++ n ∷ []) → AreRising (ns ++ m ∷ [])
rising_to [] n m le rising = (tt, tt)
rising_to (x ∷ ns) n m le rising = (all_above x ns n m le rising.0, rising_to ns n m le rising.1)

all_more : (k : ℕ) (ns : List ℕ) (n : ℕ) → AllByRecursion (λ x. k ≤ x) (ns ++ n ∷ []) → AllByRecursion (λ x. k ≤ x) ((ns ++ n ∷ []) ++ n ∷ [])
all_more k [] n all = (all.0, (all.0, tt))
all_more k (x ∷ ns) n all = (all.0, all_more k ns n all.1)

-- and with it once more
pub rising_more : (ns : List ℕ) (n : ℕ) → AreRising (ns ++ n ∷ []) → AreRising ((ns ++ n ∷ []) ++ n ∷ [])
rising_more [] n rising = ((omega arith, tt), (tt, tt))
rising_more (x ∷ ns) n rising = (all_more x ns n rising.0, rising_more ns n rising.1)

-- ---- cuts, one count after the other

-- what comes after a count and others with one more, unless that is the last of them
abbrev behind : ℕ → List ℕ → ℕ → List ℕ
behind m [] n = cond (m == n) [] (n ∷ [])
behind m (x ∷ rest) n = x ∷ behind x rest n

abbrev with_last : List ℕ → ℕ → List ℕ
with_last [] n = n ∷ []
with_last (m ∷ rest) n = m ∷ behind m rest n

once_with : (m n : ℕ) (ns : List ℕ) → with_count m (with_last ns n) ≡ with_last (with_count m ns) n
once_with m n [] = by (eqb m n) refl
  where
    by : (b : Bool) → eqb m n ≡ b → cond b (n ∷ []) (m ∷ n ∷ []) ≡ m ∷ cond b [] (n ∷ [])
    by true e = ap (λ (k : ℕ). k ∷ []) (sym (eqb-true m n e))
    by false e = refl
once_with m n (x ∷ rest) = by (eqb m x)
  where
    by : (b : Bool) → cond b (x ∷ behind x rest n) (m ∷ x ∷ behind x rest n) ≡ with_last (cond b (x ∷ rest) (m ∷ x ∷ rest)) n
    by true = refl
    by false = refl

once_last : (before : List ℕ) (n : ℕ) → each_once (before ++ n ∷ []) ≡ with_last (each_once before) n
once_last [] n = refl
once_last (m ∷ ms) n = ap (with_count m) (once_last ms n) ∙ once_with m n (each_once ms)

behind_is : (m n : ℕ) (rest : List ℕ) → behind m rest n ≡ cond (end_with n (m ∷ rest)) rest (rest ++ n ∷ [])
behind_is m n [] = refl
behind_is m n (x ∷ rest) = ap (λ (l : List ℕ). x ∷ l) (behind_is x n rest) ∙ by (end_with n (x ∷ rest))
  where
    by : (b : Bool) → x ∷ cond b rest (rest ++ n ∷ []) ≡ cond b (x ∷ rest) (x ∷ rest ++ n ∷ [])
    by true = refl
    by false = refl

with_last_is : (n : ℕ) (ns : List ℕ) → with_last ns n ≡ cond (end_with n ns) ns (ns ++ n ∷ [])
with_last_is n [] = refl
with_last_is n (m ∷ rest) = ap (λ (l : List ℕ). m ∷ l) (behind_is m n rest) ∙ by (end_with n (m ∷ rest))
  where
    by : (b : Bool) → m ∷ cond b rest (rest ++ n ∷ []) ≡ cond b (m ∷ rest) (m ∷ rest ++ n ∷ [])
    by true = refl
    by false = refl

-- a count that counts end with adds nothing, and another one comes after them
pub once_added : (before : List ℕ) (n : ℕ) (b : Bool) → end_with n (each_once before) ≡ b → each_once (before ++ n ∷ []) ≡ cond b (each_once before) (each_once before ++ n ∷ [])
once_added before n b is =
    once_last before n ∙ with_last_is n (each_once before) ∙ ap (λ (x : Bool). cond x (each_once before) (each_once before ++ n ∷ [])) is

-- where counts end, at their last place
pub last_at : (ns : List ℕ) → slice_get ns (length ns - 1) ≡ last_count ns
last_at [] = refl
last_at (n ∷ []) = let e : length (n ∷ []) - 1 ≡ 0 = omega arith in ap (slice_get (n ∷ [])) e
last_at (n ∷ m ∷ rest) = let e : length (n ∷ m ∷ rest) - 1 ≡ suc (length (m ∷ rest) - 1) = omega arith in ap (slice_get (n ∷ m ∷ rest)) e ∙ last_at (m ∷ rest)

-- the counts of the marks are those of the snapshots
pub marks_counts : (live : List LiveSnapshot) → map (λ (mark : Mark). mark.count) (map mark_of live) ≡ map (λ (x : LiveSnapshot). x.point.count) live
marks_counts [] = refl
marks_counts (x ∷ live) = ap (λ (l : List ℕ). x.point.count ∷ l) (marks_counts live)

pub counts_are : (s : State) (kept : List Mark) (count : ℕ) → map mark_of s.snapshots ≡ kept → batch_count s.points ≡ count → map (λ (mark : Mark). mark.count) kept ++ count ∷ [] ≡ counts_of s
counts_are s kept count live counted =
    ap (λ (ms : List Mark). map (λ (mark : Mark). mark.count) ms ++ count ∷ []) (sym live)
    ∙ ap (λ (ns : List ℕ). ns ++ count ∷ []) (marks_counts s.snapshots)
    ∙ ap (λ (n : ℕ). map (λ (x : LiveSnapshot). x.point.count) s.snapshots ++ n ∷ []) (sym counted)
