-- Ranges that lie apart.
use Rattle.std.proofs.Common.{◌≡◌, ◌⊎◌, inl, inr, ⊎_elim, Bool, true, false, ◌&&◌, List, [], ◌∷◌, refl, sym, ap, ◌∙◌, subst}
use Rattle.std.specs.List.{AllByRecursion}
use Rattle.lsm_levels.specs.Among.{IsAmong}
use Rattle.lsm_levels.specs.Tables.{Table, KeyRange, range_of, at_most, is_below, meets, IsRun}
use Rattle.lsm_levels.specs.Held.{IsWithin}
use Rattle.lsm_levels.proofs.KeyOrder.{not_below, below_not, below_at_most, below_then, then_below}

pub no : true ≡ false → ⊥
no e = cc

in_both : (a b : Bool) → (a && b) ≡ true → (a ≡ true) × (b ≡ true)
in_both true b h = (refl, h)
in_both false b h = absurd cc

and_no : (a b : Bool) → b ≡ false → (a && b) ≡ false
and_no true b e = e
and_no false b e = refl

-- a range that isn't met lies on one side
pub sides : (range : KeyRange) (t : Table) → meets range t ≡ false → (is_below t.last range.first ≡ true) ⊎ (is_below range.last t.first ≡ true)
sides range t h = by (at_most range.first t.last) refl h
  where
    by : (a : Bool) → at_most range.first t.last ≡ a → (a && at_most t.first range.last) ≡ false → (is_below t.last range.first ≡ true) ⊎ (is_below range.last t.first ≡ true)
    by true e f = inr (not_below range.last t.first f)
    by false e f = inl (not_below t.last range.first e)

pub apart_left : (range : KeyRange) (t : Table) → is_below t.last range.first ≡ true → meets range t ≡ false
apart_left range t h = ap (λ b. b && at_most t.first range.last) (below_not t.last range.first h)

pub apart_right : (range : KeyRange) (t : Table) → is_below range.last t.first ≡ true → meets range t ≡ false
apart_right range t h = and_no (at_most range.first t.last) (at_most t.first range.last) (below_not range.last t.first h)

pub meets_ends : (range : KeyRange) (t : Table) → meets range t ≡ true → (at_most range.first t.last ≡ true) × (at_most t.first range.last ≡ true)
meets_ends range t h = in_both (at_most range.first t.last) (at_most t.first range.last) h

-- what holds of all of them
module _ {X : Type 0} (P : X → Type 0) where
  pub all_of : (xs : List X) → ((x : X) → IsAmong x xs → P x) → AllByRecursion P xs
  all_of [] f = tt
  all_of (x ∷ xs) f = (f x (inl refl), all_of xs (λ y a. f y (inr a)))

  pub of_all : (xs : List X) → AllByRecursion P xs → (x : X) → IsAmong x xs → P x
  of_all [] h x a = absurd a
  of_all (y ∷ xs) h x (inl e) = subst P (sym e) h.0
  of_all (y ∷ xs) h x (inr a) = of_all xs h.1 x a

-- two tables of a run are one, or the one lies before the other
pub in_run : (run : List Table) → IsRun run → (t u : Table) → IsAmong t run → IsAmong u run → (t ≡ u) ⊎ ((is_below t.last u.first ≡ true) ⊎ (is_below u.last t.first ≡ true))
in_run [] r t u a b = absurd a
in_run (x ∷ rest) r t u (inl e) (inl f) = inl (e ∙ sym f)
in_run (x ∷ rest) r t u (inl e) (inr b) = inr (inl (subst (λ (y : Table). is_below y.last u.first ≡ true) (sym e) (of_all (λ w. is_below x.last w.first ≡ true) rest r.1 u b)))
in_run (x ∷ rest) r t u (inr a) (inl f) = inr (inr (subst (λ (y : Table). is_below y.last t.first ≡ true) (sym f) (of_all (λ w. is_below x.last w.first ≡ true) rest r.1 t a)))
in_run (x ∷ rest) r t u (inr a) (inr b) = in_run rest r.2 t u a b

pub run_order : (run : List Table) → IsRun run → (t : Table) → IsAmong t run → at_most t.first t.last ≡ true
run_order [] r t a = absurd a
run_order (x ∷ rest) r t (inl e) = subst (λ (y : Table). at_most y.first y.last ≡ true) (sym e) r.0
run_order (x ∷ rest) r t (inr a) = run_order rest r.2 t a

-- another table of a run isn't met
pub other_apart : (run : List Table) → IsRun run → (t u : Table) → IsAmong t run → IsAmong u run → (t ≡ u → ⊥) → meets (range_of t) u ≡ false
other_apart run r t u a b other = ⊎_elim
    (λ e. absurd (other e))
    (λ apart. ⊎_elim (λ h. apart_right (range_of t) u h) (λ h. apart_left (range_of t) u h) apart)
    (in_run run r t u a b)

-- ---- a range apart from another, and from tables that meet the other

module _ (q r : KeyRange) (order : at_most q.first q.last ≡ true) (l : Table) (meet : meets r l ≡ true) (apart : meets q l ≡ false) where
  pub left_of : is_below q.last r.first ≡ true → is_below q.last l.first ≡ true
  left_of h = ⊎_elim
      (λ below.
      let up : is_below q.last l.last ≡ true = below_then q.last r.first l.last h (meets_ends r l meet).0 in
      let down : is_below l.last q.last ≡ true = below_then l.last q.first q.last below order in
      absurd (no (sym (below_at_most l.last q.last down) ∙ below_not q.last l.last up)))
      (λ above. above)
      (sides q l apart)

  pub right_of : is_below r.last q.first ≡ true → is_below l.last q.first ≡ true
  right_of h = ⊎_elim
      (λ below. below)
      (λ above.
      let down : is_below l.first q.first ≡ true = then_below l.first r.last q.first (meets_ends r l meet).1 h in
      let up : is_below q.first l.first ≡ true = then_below q.first q.last l.first order above in
      absurd (no (sym (below_at_most q.first l.first up) ∙ below_not l.first q.first down)))
      (sides q l apart)

-- what lies within tables that are all on one side lies there too
pub within_left : (q : KeyRange) (tables : List Table) (n : Table) → IsWithin tables n → ((x : Table) → IsAmong x tables → is_below q.last x.first ≡ true) → is_below q.last n.first ≡ true
within_left q tables n w all = below_then q.last w.a.first n.first (all w.a w.first_in) w.first_from

pub within_right : (q : KeyRange) (tables : List Table) (n : Table) → IsWithin tables n → ((x : Table) → IsAmong x tables → is_below x.last q.first ≡ true) → is_below n.last q.first ≡ true
within_right q tables n w all = then_below n.last w.b.last q.first w.last_to (all w.b w.last_in)
