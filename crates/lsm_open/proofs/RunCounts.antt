-- Runs that are read one before the other, and how many tables they have.
use Rattle.std.proofs.Common.{◌≡◌, ⊎_elim, ◌⊎◌, inl, inr, ℕ, zero, suc, ◌+◌, ◌*◌, ◌<◌, ◌≤◌, ◌==◌, Bool, true, false, cond, leb, IsTrue, List, [], ◌∷◌, length, take, drop, get_or, filter, All, Some, refl, sym, ap, subst, ◌∙◌, arith}
use Rattle.std.specs.Prelude.{slice_set}
use Rattle.std.specs.List.{HoldsAt}
use Rattle.std.proofs.lemmas.List.Elements.{All-head, All-tail}
use Rattle.std.proofs.lemmas.Bool.{eq-eqb, ne_eqb, le-leb, lt-leb}
use Rattle.std.proofs.lemmas.Grind.{drop-set_at}
use Rattle.lsm_codec.proofs.Lists.{filter_step}
use Rattle.lsm_codec.specs.Manifests.{Contents}
use Rattle.lsm_codec.specs.TableRecords.{IsTableRecord, IsOfRun, HasRuns}
use Rattle.lsm_codec.specs.declared.table_record.TableRecord.{TableRecord}
use Rattle.lsm_device.specs.Disk.{Disk, seen}
use Rattle.lsm_device.specs.History.{present}
use Rattle.lsm_device.specs.Medium.{Medium, Lasting, disk}
use Rattle.lsm_device.specs.declared.refusal.Refusal.{Refusal}
use Rattle.lsm_levels.specs.Asking.{OnlyReads}
use Rattle.lsm_levels.specs.Tables.{Table}
use Rattle.lsm_open.specs.ToldTables.{run_place, is_in_run, run_records, blocks_beside_data, beside_data_from, told_run, IsRefusedFor, AreNamedBy, IsRunRead, AreRunsRead}

-- ---- a run that is read later is read as before

pub run_before : (n : ℕ) (old mid : Medium) (m : Contents) (k : ℕ) (r : List Table) → OnlyReads old mid → IsRunRead n mid.lasting.tells (seen (disk mid)) m k r → IsRunRead n old.lasting.tells (seen (disk old)) m k r
run_before n old mid m k r reads is = record {
  named = is.named;
  told = λ t. subst (λ (h : List Disk). told_run n (seen (present h)) m k ≡ Some r) (reads.unchanged t) (is.told (subst (λ (l : Lasting). IsTrue l.tells) (sym reads.same_lasting) t));
}

pub refused_before : (n : ℕ) (old mid : Medium) (m : Contents) (k : ℕ) (e : Refusal) → OnlyReads old mid → (IsTrue mid.lasting.tells → IsRefusedFor (told_run n (seen (disk mid)) m k) e) → IsTrue old.lasting.tells → IsRefusedFor (told_run n (seen (disk old)) m k) e
refused_before n old mid m k e reads is t = subst (λ (h : List Disk). IsRefusedFor (told_run n (seen (present h)) m k) e) (reads.unchanged t) (is (subst (λ (l : Lasting). IsTrue l.tells) (sym reads.same_lasting) t))

-- a run is put before those that are read
pub run_put : (n : ℕ) (tells : Bool) (S : List (List ℕ)) (m : Contents) (k next p q : ℕ) (runs : List (List Table)) (r : List Table) → next ≡ suc k → q ≡ p + 1 → p < length runs → IsRunRead n tells S m k r → AreRunsRead n tells S m next (drop q runs)
    → AreRunsRead n tells S m k (drop p (slice_set runs p r))
run_put n tells S m k next p q runs r is follows lt read rest =
    subst (λ (l : List (List Table)). AreRunsRead n tells S m k l) (sym (drop-set_at runs p p r refl lt))
    (read, subst (λ (i : ℕ). AreRunsRead n tells S m i (drop (p + 1) runs)) is (subst (λ (i : ℕ). AreRunsRead n tells S m next (drop i runs)) follows rest))

-- ---- how many tables are in runs, and how many blocks they have besides data blocks

module _ {X : Type 0} (p : X → Bool) where
  one_counted : (x : X) (xs : List X) (b : Bool) → p x ≡ b → length (filter p (x ∷ xs)) ≡ cond b 1 0 + length (filter p xs)
  one_counted x xs true is = ap length (filter_step p x xs true is) ∙ omega arith
  one_counted x xs false is = ap length (filter_step p x xs false is) ∙ omega arith

one_beside : (p : TableRecord → Bool) (t : TableRecord) (ts : List TableRecord) (b : Bool) → p t ≡ b → blocks_beside_data (filter p (t ∷ ts)) ≡ cond b (t.index_blocks + 2) 0 + blocks_beside_data (filter p ts)
one_beside p t ts true is = ap blocks_beside_data (filter_step p t ts true is)
one_beside p t ts false is = ap blocks_beside_data (filter_step p t ts false is) ∙ omega arith

-- one table more
pub one_more_beside : (ts : List TableRecord) (i : ℕ) (d : TableRecord) → i < length ts → blocks_beside_data (take (i + 1) ts) ≡ blocks_beside_data (take i ts) + ((get_or ts i d).index_blocks + 2)
one_more_beside [] i d lt = absurd (omega (arith, lt))
one_more_beside (t ∷ rest) zero d lt = omega arith
one_more_beside (t ∷ rest) (suc i) d lt =
    let next : suc i + 1 ≡ suc (i + 1) = omega arith in
    let more = one_more_beside rest i d (omega (arith, lt)) in
    ap (λ (k : ℕ). blocks_beside_data (take k (t ∷ rest))) next ∙ omega (arith, more)

pub fewer_taken : (ts : List TableRecord) (i : ℕ) → blocks_beside_data (take i ts) ≤ blocks_beside_data ts
fewer_taken [] zero = omega arith
fewer_taken [] (suc i) = omega arith
fewer_taken (t ∷ rest) zero = omega arith
fewer_taken (t ∷ rest) (suc i) = omega (arith, fewer_taken rest i)

split : (a b : ℕ) → (b ≡ a) ⊎ ((a < b) ⊎ (b < a))
split zero zero = inl refl
split zero (suc b) = inr (inl (omega arith))
split (suc a) zero = inr (inr (omega arith))
split (suc a) (suc b) = ⊎_elim (λ h. inl (ap suc h)) (⊎_elim (λ h. inr (inl (omega (arith, h)))) (λ h. inr (inr (omega (arith, h))))) (split a b)

by_order : (k p : ℕ) → (((p == k) ≡ true) × (leb k p ≡ true) × (leb (suc k) p ≡ false)) ⊎ (((p == k) ≡ false) × (leb k p ≡ leb (suc k) p))
by_order k p = order (split k p)
  where
    order : (p ≡ k) ⊎ ((k < p) ⊎ (p < k)) → (((p == k) ≡ true) × (leb k p ≡ true) × (leb (suc k) p ≡ false)) ⊎ (((p == k) ≡ false) × (leb k p ≡ leb (suc k) p))
    order = ⊎_elim
        (λ h. inl (eq-eqb p k h, le-leb k p (omega (arith, h)), lt-leb (suc k) p (omega (arith, h))))
        (⊎_elim
        (λ h. inr (ne_eqb p k (λ e. absurd (omega (arith, h, e))), le-leb k p (omega (arith, h)) ∙ sym (le-leb (suc k) p (omega (arith, h)))))
        (λ h. inr (ne_eqb p k (λ e. absurd (omega (arith, h, e))), lt-leb k p h ∙ sym (lt-leb (suc k) p (omega (arith, h))))))

abbrev num : ℕ → Bool → ℕ
num n b = cond b n 0

numbers_agree : (n : ℕ) (a b c : Bool) → ((b ≡ true) × (a ≡ true) × (c ≡ false)) ⊎ ((b ≡ false) × (a ≡ c)) → num n a ≡ num n b + num n c
numbers_agree n a b c = ⊎_elim
    (λ h.
    let all : num n a ≡ n = ap (num n) h.1 in
    let here : num n b ≡ n = ap (num n) h.0 in
    let none : num n c ≡ 0 = ap (num n) h.2 in
    omega (arith, all, here, none))
    (λ h.
    let none : num n b ≡ 0 = ap (num n) h.0 in
    omega (arith, none, ap (num n) h.1))

counted : (runs k : ℕ) (ts : List TableRecord)
    → blocks_beside_data (filter (λ t. leb k (run_place runs t.run t.level)) ts) ≡ blocks_beside_data (filter (is_in_run runs k) ts) + blocks_beside_data (filter (λ t. leb (suc k) (run_place runs t.run t.level)) ts)
counted runs k [] = refl
counted runs k (t ∷ rest) =
    let place = run_place runs t.run t.level in
    let one = one_beside (λ (u : TableRecord). leb k (run_place runs u.run u.level)) t rest (leb k place) refl in
    let two = one_beside (is_in_run runs k) t rest (place == k) refl in
    let three = one_beside (λ (u : TableRecord). leb (suc k) (run_place runs u.run u.level)) t rest (leb (suc k) place) refl in
    let sum = numbers_agree (t.index_blocks + 2) (leb k place) (place == k) (leb (suc k) place) (by_order k place) in
    omega (arith, one, two, three, sum, counted runs k rest)

-- the blocks from a place on are those of its run, and those after it
pub run_counted : (m : Contents) (k next : ℕ) → next ≡ suc k → beside_data_from m k ≡ blocks_beside_data (run_records m k) + beside_data_from m next
run_counted m k next is = counted m.runs k m.tables ∙ ap (λ (i : ℕ). blocks_beside_data (run_records m k) + beside_data_from m i) (sym is)

pub fewer_from : (m : Contents) (k j : ℕ) → beside_data_from m (k + j) ≤ beside_data_from m k
fewer_from m k zero = let same : k + 0 ≡ k = omega arith in omega (arith, ap (beside_data_from m) same)
fewer_from m k (suc j) =
    let next : k + suc j ≡ suc (k + j) = omega arith in
    omega (arith, run_counted m (k + j) (k + suc j) next, fewer_from m k j)

few_beside : (p : TableRecord → Bool) (ts : List TableRecord) → blocks_beside_data (filter p ts) ≤ blocks_beside_data ts
few_beside p [] = omega arith
few_beside p (t ∷ ts) = by (p t) (one_beside p t ts (p t) refl) (few_beside p ts)
  where
    by : (b : Bool) → blocks_beside_data (filter p (t ∷ ts)) ≡ cond b (t.index_blocks + 2) 0 + blocks_beside_data (filter p ts) → blocks_beside_data (filter p ts) ≤ blocks_beside_data ts → blocks_beside_data (filter p (t ∷ ts)) ≤ (t.index_blocks + 2) + blocks_beside_data ts
    by true one few = omega (arith, one, few)
    by false one few = omega (arith, one, few)

pub few_blocks : (m : Contents) (k : ℕ) → beside_data_from m k ≤ blocks_beside_data m.tables
few_blocks m k = few_beside (λ t. leb k (run_place m.runs t.run t.level)) m.tables

-- at most seven for each table
pub few_for_each : (next runs : ℕ) (ts : List TableRecord) → All (IsTableRecord next runs) ts → blocks_beside_data ts ≤ 7 * length ts
few_for_each next runs [] each = omega arith
few_for_each next runs (t ∷ rest) each =
    let one = All-head (IsTableRecord next runs) t rest each in
    omega (arith, one.sizes.index_high, few_for_each next runs rest (All-tail (IsTableRecord next runs) t rest each))

-- ---- which runs have tables

pub named_length : (ts : List TableRecord) (xs : List Table) → AreNamedBy ts xs → length xs ≡ length ts
named_length [] [] named = refl
named_length [] (x ∷ xs) named = absurd named
named_length (t ∷ ts) [] named = absurd named
named_length (t ∷ ts) (x ∷ xs) named = ap suc (named_length ts xs named.1)

in_its_run : (runs k : ℕ) (t : TableRecord) → IsOfRun k t → is_in_run runs k t ≡ true
in_its_run runs k t is = eq-eqb (run_place runs t.run t.level) k (ap (run_place runs t.run) is.0 ∙ is.1)

some_in_run : (runs k : ℕ) (ts : List TableRecord) (i : ℕ) → i < length ts → HoldsAt (IsOfRun k) ts i → 0 < length (filter (is_in_run runs k) ts)
some_in_run runs k [] i lt is = absurd (omega (arith, lt))
some_in_run runs k (t ∷ rest) zero lt is = let one = one_counted (is_in_run runs k) t rest true (in_its_run runs k t (is t)) in omega (arith, one)
some_in_run runs k (t ∷ rest) (suc i) lt is =
    let one = one_counted (is_in_run runs k) t rest (is_in_run runs k t) refl in
    let more = some_in_run runs k rest i (omega (arith, lt)) is in
    omega (arith, one, more)

-- each run of level 0 that was read has a table
pub some_read : (m : Contents) (k : ℕ) (r : List Table) → HasRuns m.runs m.tables → k < m.runs → AreNamedBy (run_records m k) r → 0 < length r
some_read m k r has lt named =
    let at = has.each k lt in
    let some = some_in_run m.runs k m.tables at.0 at.1 at.2 in
    omega (arith, named_length (run_records m k) r named, some)
