-- Which tables a level has after a merge.
use Rattle.std.proofs.Common.{◌≡◌, ◌≢◌, ◌⊎◌, inl, inr, ⊎_elim, ℕ, zero, suc, ◌<◌, ◌≤◌, Bool, true, false, eqb, List, [], ◌∷◌, ◌++◌, length, get_or, set, filter, refl, sym, ap, ◌∙◌, subst, arith}
use Rattle.std.proofs.lemmas.Bool.{eqb-true, eqb-false}
use Rattle.std.proofs.lemmas.List.{get_or-set_same, get_or-set_other}
use Rattle.lsm_levels.specs.Among.{IsAmong}
use Rattle.lsm_levels.proofs.Members.{among_left, among_right, among_either, among_passed, passed_among}
use Rattle.lsm_levels.specs.Tables.{Table, KeyRange, is_below, meets, put_at}
use Rattle.lsm_levels.specs.Levels.{Levels, all_tables, level, newer_runs, lowered, replaced}
use Rattle.lsm_levels.proofs.Ranges.{sides, apart_left, apart_right}
use Rattle.lsm_levels.proofs.OldestRuns.{newer_among}

-- ---- in the place of those that meet a range

pub put_cases : (r : KeyRange) (new xs : List Table) (t : Table) → IsAmong t (put_at r new xs) → (IsAmong t xs × (meets r t ≡ false)) ⊎ IsAmong t new
put_cases r new xs t a = ⊎_elim
    (λ b. let p = passed_among (λ u. is_below u.last r.first) t xs b in inl (p.0, apart_left r t p.1))
    (λ rest. ⊎_elim
    (λ b. inr b)
    (λ b. let p = passed_among (λ u. is_below r.last u.first) t xs b in inl (p.0, apart_right r t p.1))
    (among_either t new (filter (λ u. is_below r.last u.first) xs) rest))
    (among_either t (filter (λ u. is_below u.last r.first) xs) (new ++ filter (λ u. is_below r.last u.first) xs) a)

pub put_stays : (r : KeyRange) (new xs : List Table) (t : Table) → IsAmong t xs → meets r t ≡ false → IsAmong t (put_at r new xs)
put_stays r new xs t a apart = ⊎_elim
    (λ h. among_left t before (new ++ behind) (among_passed (λ u. is_below u.last r.first) t xs a h))
    (λ h. among_right t before (new ++ behind) (among_right t new behind (among_passed (λ u. is_below r.last u.first) t xs a h)))
    (sides r t apart)
  where
    before : List Table
    before = filter (λ u. is_below u.last r.first) xs

    behind : List Table
    behind = filter (λ u. is_below r.last u.first) xs

pub put_new : (r : KeyRange) (new xs : List Table) (t : Table) → IsAmong t new → IsAmong t (put_at r new xs)
put_new r new xs t a = among_right t (filter (λ u. is_below u.last r.first) xs) (new ++ filter (λ u. is_below r.last u.first) xs) (among_left t new (filter (λ u. is_below r.last u.first) xs) a)

-- ---- two levels that follow one another

abbrev pub deeper_after : KeyRange → List Table → List (List Table) → ℕ → List (List Table)
deeper_after r new deeper i =
    set (set deeper (suc i) (put_at r new (get_or deeper (suc i) []))) i (put_at r [] (get_or (set deeper (suc i) (put_at r new (get_or deeper (suc i) []))) i []))

module _ (r : KeyRange) (new : List Table) (deeper : List (List Table)) (i : ℕ) (inside : suc i < length deeper) where
  abbrev lower_set : List (List Table)
  lower_set = set deeper (suc i) (put_at r new (get_or deeper (suc i) []))

  upper_is : get_or lower_set i [] ≡ get_or deeper i []
  upper_is = get_or-set_other deeper (suc i) i (put_at r new (get_or deeper (suc i) [])) [] (λ e. omega (arith, e))

  pub at_upper : i < length lower_set → get_or (deeper_after r new deeper i) i [] ≡ put_at r [] (get_or deeper i [])
  at_upper h = get_or-set_same lower_set i (put_at r [] (get_or lower_set i [])) [] h ∙ ap (put_at r []) upper_is

  pub at_lower : get_or (deeper_after r new deeper i) (suc i) [] ≡ put_at r new (get_or deeper (suc i) [])
  at_lower =
      get_or-set_other lower_set i (suc i) (put_at r [] (get_or lower_set i [])) [] (λ e. omega (arith, e))
      ∙ get_or-set_same deeper (suc i) (put_at r new (get_or deeper (suc i) [])) [] inside

  pub at_other : (m : ℕ) → m ≢ i → m ≢ suc i → get_or (deeper_after r new deeper i) m [] ≡ get_or deeper m []
  at_other m a b =
      get_or-set_other lower_set i m (put_at r [] (get_or lower_set i [])) [] a
      ∙ get_or-set_other deeper (suc i) m (put_at r new (get_or deeper (suc i) [])) [] b

-- whether two numbers are one
pub same_or_not : (m n : ℕ) → (m ≡ n) ⊎ (m ≢ n)
same_or_not m n = by (eqb m n) refl
  where
    by : (b : Bool) → eqb m n ≡ b → (m ≡ n) ⊎ (m ≢ n)
    by true e = inl (eqb-true m n e)
    by false e = inr (eqb-false m n e)

-- ---- all levels

module _ (r : KeyRange) (n : ℕ) (new : List Table) (levels : Levels) (four : length levels.deeper ≡ 4) where
  length_set : (i : ℕ) (y : List Table) → length (set levels.deeper i y) ≡ length levels.deeper
  length_set i y = go levels.deeper i
    where
      go : (xs : List (List Table)) (j : ℕ) → length (set xs j y) ≡ length xs
      go [] j = refl
      go (x ∷ xs) zero = refl
      go (x ∷ xs) (suc j) = ap suc (go xs j)

  -- a table of a level was there, and stays; or it is an output
  lowered_cases : (j : ℕ) → j ≤ 3 → (k : ℕ) (t : Table) → IsAmong t (level (lowered j r n new levels) k)
      → IsAmong t (level levels k) ⊎ ((k ≡ suc j) × IsAmong t new)
  lowered_cases zero small zero t a = inl (newer_among n levels.runs t a)
  lowered_cases zero small (suc zero) t a =
      ⊎_elim (λ old. inl old.0) (λ n. inr (refl, n))
      (put_cases r new (get_or levels.deeper 0 []) t (subst (IsAmong t) (get_or-set_same levels.deeper 0 (put_at r new (get_or levels.deeper 0 [])) [] (omega (arith, four))) a))
  lowered_cases zero small (suc (suc m)) t a = inl (subst (IsAmong t) (get_or-set_other levels.deeper 0 (suc m) (put_at r new (get_or levels.deeper 0 [])) [] (λ e. omega (arith, e))) a)
  lowered_cases (suc i) small zero t a = inl a
  lowered_cases (suc i) small (suc m) t a = ⊎_elim
      (λ (e : m ≡ i).
      ⊎_elim (λ old. inl (subst (λ n. IsAmong t (get_or levels.deeper n [])) (sym e) old.0)) (λ none. absurd none)
      (put_cases r [] (get_or levels.deeper i []) t
      (subst (IsAmong t) (at_upper r new levels.deeper i (omega (arith, four, small)) (omega (arith, four, small, length_set (suc i) (put_at r new (get_or levels.deeper (suc i) []))))) (subst (λ n. IsAmong t (get_or (deeper_after r new levels.deeper i) n [])) e a))))
      (λ (other : m ≢ i). ⊎_elim
      (λ (e : m ≡ suc i).
      ⊎_elim (λ old. inl (subst (λ n. IsAmong t (get_or levels.deeper n [])) (sym e) old.0)) (λ n. inr (ap suc e, n))
      (put_cases r new (get_or levels.deeper (suc i) []) t
      (subst (IsAmong t) (at_lower r new levels.deeper i (omega (arith, four, small))) (subst (λ n. IsAmong t (get_or (deeper_after r new levels.deeper i) n [])) e a))))
      (λ (also : m ≢ suc i). inl (subst (IsAmong t) (at_other r new levels.deeper i (omega (arith, four, small)) m other also) a))
      (same_or_not m (suc i)))
      (same_or_not m i)

  -- one that isn't taken stays
  lowered_stays : (j : ℕ) → j ≤ 3 → (k : ℕ) (t : Table) → IsAmong t (level levels k) → (k ≡ suc j → meets r t ≡ false) → (k ≡ j → 1 ≤ j → meets r t ≡ false) → (k ≡ 0 → j ≡ 0 → IsAmong t (all_tables (newer_runs n levels.runs)))
      → IsAmong t (level (lowered j r n new levels) k)
  lowered_stays zero small zero t a low up newer = newer refl refl
  lowered_stays zero small (suc zero) t a low up newer =
      subst (IsAmong t) (sym (get_or-set_same levels.deeper 0 (put_at r new (get_or levels.deeper 0 [])) [] (omega (arith, four)))) (put_stays r new (get_or levels.deeper 0 []) t a (low refl))
  lowered_stays zero small (suc (suc m)) t a low up newer = subst (IsAmong t) (sym (get_or-set_other levels.deeper 0 (suc m) (put_at r new (get_or levels.deeper 0 [])) [] (λ e. omega (arith, e)))) a
  lowered_stays (suc i) small zero t a low up newer = a
  lowered_stays (suc i) small (suc m) t a low up newer = ⊎_elim
      (λ (e : m ≡ i).
      subst (λ n. IsAmong t (get_or (deeper_after r new levels.deeper i) n [])) (sym e)
      (subst (IsAmong t) (sym (at_upper r new levels.deeper i (omega (arith, four, small)) (omega (arith, four, small, length_set (suc i) (put_at r new (get_or levels.deeper (suc i) []))))))
      (put_stays r [] (get_or levels.deeper i []) t (subst (λ n. IsAmong t (get_or levels.deeper n [])) e a) (up (ap suc e) (omega arith)))))
      (λ (other : m ≢ i). ⊎_elim
      (λ (e : m ≡ suc i).
      subst (λ n. IsAmong t (get_or (deeper_after r new levels.deeper i) n [])) (sym e)
      (subst (IsAmong t) (sym (at_lower r new levels.deeper i (omega (arith, four, small))))
      (put_stays r new (get_or levels.deeper (suc i) []) t (subst (λ n. IsAmong t (get_or levels.deeper n [])) e a) (low (ap suc e)))))
      (λ (also : m ≢ suc i). subst (IsAmong t) (sym (at_other r new levels.deeper i (omega (arith, four, small)) m other also)) a)
      (same_or_not m (suc i)))
      (same_or_not m i)

-- ---- a merge of n upper tables

pub after_cases : (r : KeyRange) (n : ℕ) (new : List Table) (levels : Levels) → length levels.deeper ≡ 4 → (j : ℕ) → j ≤ 3 → (k : ℕ) (t : Table) → IsAmong t (level (replaced j r n new levels) k)
    → IsAmong t (level levels k) ⊎ ((k ≡ suc j) × IsAmong t new)
after_cases r zero new levels four j small zero t a = inl a
after_cases r zero new levels four j small (suc m) t a = ⊎_elim
    (λ (e : m ≡ j). ⊎_elim (λ old. inl (subst (λ n. IsAmong t (get_or levels.deeper n [])) (sym e) old.0)) (λ n. inr (ap suc e, n))
    (put_cases r new (get_or levels.deeper j []) t
    (subst (IsAmong t) (get_or-set_same levels.deeper j (put_at r new (get_or levels.deeper j [])) [] (omega (arith, four, small))) (subst (λ n. IsAmong t (get_or (set levels.deeper j (put_at r new (get_or levels.deeper j []))) n [])) e a))))
    (λ (other : m ≢ j). inl (subst (IsAmong t) (get_or-set_other levels.deeper j m (put_at r new (get_or levels.deeper j [])) [] other) a))
    (same_or_not m j)
after_cases r (suc n) new levels four j small k t a = lowered_cases r (suc n) new levels four j small k t a

pub stays_after : (r : KeyRange) (n : ℕ) (new : List Table) (levels : Levels) → length levels.deeper ≡ 4 → (j : ℕ) → j ≤ 3 → (k : ℕ) (t : Table) → IsAmong t (level levels k)
    → (k ≡ suc j → meets r t ≡ false) → (k ≡ j → 1 ≤ j → meets r t ≡ false) → (k ≡ 0 → j ≡ 0 → IsAmong t (all_tables (newer_runs n levels.runs))) → IsAmong t (level (replaced j r n new levels) k)
stays_after r zero new levels four j small zero t a low up newer = a
stays_after r zero new levels four j small (suc m) t a low up newer = ⊎_elim
    (λ (e : m ≡ j). subst (λ n. IsAmong t (get_or (set levels.deeper j (put_at r new (get_or levels.deeper j []))) n [])) (sym e)
    (subst (IsAmong t) (sym (get_or-set_same levels.deeper j (put_at r new (get_or levels.deeper j [])) [] (omega (arith, four, small))))
    (put_stays r new (get_or levels.deeper j []) t (subst (λ n. IsAmong t (get_or levels.deeper n [])) e a) (low (ap suc e)))))
    (λ (other : m ≢ j). subst (IsAmong t) (sym (get_or-set_other levels.deeper j m (put_at r new (get_or levels.deeper j [])) [] other)) a)
    (same_or_not m j)
stays_after r (suc n) new levels four j small k t a low up newer = lowered_stays r (suc n) new levels four j small k t a low up newer
