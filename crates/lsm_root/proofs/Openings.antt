-- What openings leave, one after another.
use Rattle.std.proofs.Common.{◌≡◌, ◌≢◌, ◌≤◌, ◌⊎◌, inl, inr, ⊎_elim, ℕ, zero, suc, ◌+◌, ◌==◌, Bool, true, false, cond, [], ◌∷◌, refl, ap, sym, subst, arith}
use Rattle.std.specs.Prelude.{Contains}
use Rattle.std.proofs.lemmas.Bool.{eqb-true, eqb-false}
use Rattle.std.proofs.lemmas.List.Elements.{Contains-push_cases}
use Rattle.lsm_root.specs.CrashState.{CrashState, last_number, in_next_generation, left_by_opening, IsLeftAgain, IsSameAgain}

none_in : (left : CrashState) → Contains [] left → ⊥
none_in left found = omega (arith, found.1)

one_in : (x left : CrashState) → Contains (x ∷ []) left → left ≡ x
one_in x left found = ⊎_elim (λ h. absurd (none_in left h)) (λ e. sym e) (Contains-push_cases [] x left found)

two_in : (x y left : CrashState) → Contains (x ∷ y ∷ []) left → (left ≡ x) ⊎ (left ≡ y)
two_in x y left found = ⊎_elim (λ h. inl (one_in x left h)) (λ e. inr (sym e)) (Contains-push_cases (x ∷ []) y left found)

-- one opening leaves the same in this generation, or in the next where there is one
pub one_opening : (mid left : CrashState) → Contains (left_by_opening mid) left → (left ≡ mid) ⊎ ((left ≡ in_next_generation mid) × (mid.generation ≢ last_number))
one_opening mid left found = by (mid.generation == last_number) refl found
  where
    by : (b : Bool) → (mid.generation == last_number) ≡ b → Contains (cond b (mid ∷ []) (mid ∷ in_next_generation mid ∷ [])) left → (left ≡ mid) ⊎ ((left ≡ in_next_generation mid) × (mid.generation ≢ last_number))
    by true e h = inl (one_in mid left h)
    by false e h = ⊎_elim (λ same. inl same) (λ other. inr (other, eqb-false mid.generation last_number e)) (two_in mid (in_next_generation mid) left h)

-- what an opening may leave: the same again, and in each generation but the last the same in the next
pub same_again : (left : CrashState) → Contains (left_by_opening left) left
same_again left = by (left.generation == last_number)
  where
    by : (b : Bool) → Contains (cond b (left ∷ []) (left ∷ in_next_generation left ∷ [])) left
    by true = (0, omega arith, refl)
    by false = (0, omega arith, refl)

pub next_again : (left : CrashState) → left.generation ≢ last_number → Contains (left_by_opening left) (in_next_generation left)
next_again left ne = by (left.generation == last_number) refl
  where
    by : (b : Bool) → (left.generation == last_number) ≡ b → Contains (cond b (left ∷ []) (left ∷ in_next_generation left ∷ [])) (in_next_generation left)
    by true e = absurd (ne (eqb-true left.generation last_number e))
    by false e = (1, omega arith, refl)

one_more : (first mid left : CrashState) (openings : ℕ) → IsSameAgain first openings mid → (left ≡ mid) ⊎ ((left ≡ in_next_generation mid) × (mid.generation ≢ last_number)) → IsSameAgain first (suc openings) left
one_more first mid left openings so_far (inl e) = subst (IsSameAgain first (suc openings)) (sym e) (record {
  same = so_far.same;
  not_before = so_far.not_before;
  at_most = omega (arith, so_far.at_most);
  never_past = so_far.never_past;
})
one_more first mid left openings so_far (inr h) = subst (IsSameAgain first (suc openings)) (sym h.0) (record {
  same = ap in_next_generation so_far.same;
  not_before = omega (arith, so_far.not_before);
  at_most = omega (arith, so_far.at_most);
  never_past = below mid.generation so_far.never_past h.1;
})
  where
    below : (n : ℕ) → n ≤ last_number → n ≢ last_number → n + 1 ≤ last_number
    below n le ne = omega arith

pub again : (first last : CrashState) (openings : ℕ) → first.generation ≤ last_number → IsLeftAgain first openings last → IsSameAgain first openings last
again first last zero fits same = subst (IsSameAgain first 0) (sym same) (record { same = refl; not_before = omega arith; at_most = omega arith; never_past = fits })
again first last (suc openings) fits (mid, before, found) = one_more first mid last openings (again first mid openings fits before) (one_opening mid last found)
