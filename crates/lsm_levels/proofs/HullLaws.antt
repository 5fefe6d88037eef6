-- The hull of tables.
use Rattle.std.proofs.Common.{◌≡◌, ◌⊎◌, inl, inr, ⊎_elim, Bool, true, false, cond, List, [], ◌∷◌, ◌++◌, Option, Some, None, refl, sym, subst}
use Rattle.lsm_codec.specs.Keys.{Bytes}
use Rattle.lsm_levels.specs.Among.{IsAmong}
use Rattle.lsm_levels.proofs.Members.{among_either}
use Rattle.lsm_levels.specs.Tables.{Table, KeyRange, at_most, is_below, least, greatest, spanned, hull, meets}
use Rattle.lsm_levels.specs.Held.{IsWithin}
use Rattle.lsm_levels.proofs.KeyOrder.{at_most_trans, at_most_total, at_most_itself, below_then, then_below}
use Rattle.lsm_levels.proofs.Ranges.{left_of, right_of, within_left, within_right, apart_left, apart_right}

least_left : (a b : Bytes) → at_most (least a b) a ≡ true
least_left a b = by (at_most a b) refl
  where
    by : (x : Bool) → at_most a b ≡ x → at_most (cond x a b) a ≡ true
    by true e = at_most_itself a
    by false e = at_most_total a b e

least_right : (a b : Bytes) → at_most (least a b) b ≡ true
least_right a b = by (at_most a b) refl
  where
    by : (x : Bool) → at_most a b ≡ x → at_most (cond x a b) b ≡ true
    by true e = e
    by false e = at_most_itself b

greatest_left : (a b : Bytes) → at_most a (greatest a b) ≡ true
greatest_left a b = by (at_most a b) refl
  where
    by : (x : Bool) → at_most a b ≡ x → at_most a (cond x b a) ≡ true
    by true e = e
    by false e = at_most_itself a

greatest_right : (a b : Bytes) → at_most b (greatest a b) ≡ true
greatest_right a b = by (at_most a b) refl
  where
    by : (x : Bool) → at_most a b ≡ x → at_most b (cond x b a) ≡ true
    by true e = at_most_itself b
    by false e = at_most_total a b e

-- ---- it covers each table

abbrev pub Covers : KeyRange → List Table → Type 0
Covers w tables = (x : Table) → IsAmong x tables → (at_most w.first x.first ≡ true) × (at_most x.last w.last ≡ true)

abbrev IfCovers : Option KeyRange → List Table → Type 0
IfCovers (Some w) tables = Covers w tables
IfCovers None tables = (x : Table) → IsAmong x tables → ⊥

spanned_covers : (t : Table) (rest : List Table) (o : Option KeyRange) → IfCovers o rest → Covers (spanned t o) (t ∷ rest)
spanned_covers t rest None c x (inl e) = subst (λ (y : Table). (at_most t.first y.first ≡ true) × (at_most y.last t.last ≡ true)) (sym e) (at_most_itself t.first, at_most_itself t.last)
spanned_covers t rest None c x (inr a) = absurd (c x a)
spanned_covers t rest (Some w) c x (inl e) = subst (λ (y : Table). (at_most (least t.first w.first) y.first ≡ true) × (at_most y.last (greatest t.last w.last) ≡ true)) (sym e) (least_left t.first w.first, greatest_left t.last w.last)
spanned_covers t rest (Some w) c x (inr a) = (at_most_trans (least t.first w.first) w.first x.first (least_right t.first w.first) (c x a).0, at_most_trans x.last w.last (greatest t.last w.last) (c x a).1 (greatest_right t.last w.last))

covered : (tables : List Table) → IfCovers (hull tables) tables
covered [] = λ x a. a
covered (t ∷ rest) = spanned_covers t rest (hull rest) (covered rest)

pub hull_covers : (tables : List Table) (w : KeyRange) → hull tables ≡ Some w → Covers w tables
hull_covers tables w e = subst (λ (o : Option KeyRange). IfCovers o tables) e (covered tables)

-- ---- and it ends with some

pub record Ends (w : KeyRange) (tables : List Table) : Type 0 where
  pub a : Table
  pub a_in : IsAmong a tables
  pub first : a.first ≡ w.first
  pub b : Table
  pub b_in : IsAmong b tables
  pub last : b.last ≡ w.last

abbrev IfEnds : Option KeyRange → List Table → Type 0
IfEnds (Some w) tables = Ends w tables
IfEnds None tables = Unit {0}

spanned_ends : (t : Table) (rest : List Table) (o : Option KeyRange) → IfEnds o rest → Ends (spanned t o) (t ∷ rest)
spanned_ends t rest None c = record { a = t; a_in = inl refl; first = refl; b = t; b_in = inl refl; last = refl }
spanned_ends t rest (Some w) c = by (at_most t.first w.first) (at_most t.last w.last)
  where
    by : (x y : Bool) → Ends (record { first = cond x t.first w.first; last = cond y w.last t.last }) (t ∷ rest)
    by true true = record { a = t; a_in = inl refl; first = refl; b = c.b; b_in = inr c.b_in; last = c.last }
    by true false = record { a = t; a_in = inl refl; first = refl; b = t; b_in = inl refl; last = refl }
    by false true = record { a = c.a; a_in = inr c.a_in; first = c.first; b = c.b; b_in = inr c.b_in; last = c.last }
    by false false = record { a = c.a; a_in = inr c.a_in; first = c.first; b = t; b_in = inl refl; last = refl }

ended : (tables : List Table) → IfEnds (hull tables) tables
ended [] = tt
ended (t ∷ rest) = spanned_ends t rest (hull rest) (ended rest)

pub hull_ends : (tables : List Table) (w : KeyRange) → hull tables ≡ Some w → Ends w tables
hull_ends tables w e = subst (λ (o : Option KeyRange). IfEnds o tables) e (ended tables)

pub hull_order : (tables : List Table) (w : KeyRange) → hull tables ≡ Some w → ((x : Table) → IsAmong x tables → at_most x.first x.last ≡ true) → at_most w.first w.last ≡ true
hull_order tables w e order =
    let ends = hull_ends tables w e in
    subst (λ k. at_most k w.last ≡ true) ends.first (at_most_trans ends.a.first ends.a.last w.last (order ends.a ends.a_in) (hull_covers tables w e ends.a ends.a_in).1)

-- ---- a range apart from the upper tables and each lower one

module _ (upper lower : List Table) (r q : KeyRange) (is : hull upper ≡ Some r) (meet : (l : Table) → IsAmong l lower → meets r l ≡ true)
    (order : at_most q.first q.last ≡ true) (apart : (l : Table) → IsAmong l lower → meets q l ≡ false) where
  pub all_right : is_below q.last r.first ≡ true → (x : Table) → IsAmong x (upper ++ lower) → is_below q.last x.first ≡ true
  all_right h x a = ⊎_elim
      (λ up. below_then q.last r.first x.first h (hull_covers upper r is x up).0)
      (λ low. left_of q r order x (meet x low) (apart x low) h)
      (among_either x upper lower a)

  pub all_left : is_below r.last q.first ≡ true → (x : Table) → IsAmong x (upper ++ lower) → is_below x.last q.first ≡ true
  all_left h x a = ⊎_elim
      (λ up. then_below x.last r.last q.first (hull_covers upper r is x up).1 h)
      (λ low. right_of q r order x (meet x low) (apart x low) h)
      (among_either x upper lower a)

  -- is apart from their outputs
  pub beside_output : (is_below q.last r.first ≡ true) ⊎ (is_below r.last q.first ≡ true) → (n : Table) → IsWithin (upper ++ lower) n → meets q n ≡ false
  beside_output side n w = ⊎_elim
      (λ h. apart_right q n (within_left q (upper ++ lower) n w (all_right h)))
      (λ h. apart_left q n (within_right q (upper ++ lower) n w (all_left h)))
      side

  -- and from their hull
  pub beside_hull : (is_below q.last r.first ≡ true) ⊎ (is_below r.last q.first ≡ true) → (w : KeyRange) → hull (upper ++ lower) ≡ Some w → (is_below q.last w.first ≡ true) ⊎ (is_below w.last q.first ≡ true)
  beside_hull side w e =
      let ends = hull_ends (upper ++ lower) w e in
      ⊎_elim
      (λ h. inl (subst (λ k. is_below q.last k ≡ true) ends.first (all_right h ends.a ends.a_in)))
      (λ h. inr (subst (λ k. is_below k q.first ≡ true) ends.last (all_left h ends.b ends.b_in)))
      side
