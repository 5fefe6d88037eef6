-- Versions put in their places, and lists in order merged.
use Rattle.std.proofs.Common.{◌≡◌, ℕ, ◌<◌, true, List, [], ◌∷◌, ◌++◌, suc, length, get_or, append-nil, append_assoc, ◌⊎◌, inl, inr, refl, subst, ap, sym, ◌∙◌, arith}
use Rattle.std.proofs.lemmas.List.{length-map, map-append}
use Rattle.std.specs.declared.cmp.Ordering.{Ordering}
use Rattle.std.specs.declared.cmp.Ordering.TheVariants.{Less, Equal, Greater}
use Rattle.std.specs.Ordering.{is_lt, ordering_reverse}
use Rattle.std.specs.FinMap.Entries.{by_order}
use denote.Ref.{Bor}
use Rattle.lsm_codec.specs.Versions.{AreOrdered, Version, entry_order}
use Rattle.lsm_mem.specs.EntryOrder.{placed}
use Rattle.lsm_codec.proofs.KeyOrder.{is_lt_Less}
use Rattle.lsm_merge.specs.Keeping.{all_placed}
use Rattle.lsm_merge.specs.Loops.{shown, TakesFirst}
use Rattle.lsm_mem.proofs.OrderTests.{is_before, is_in_order, entry_order_total, in_order_cons, cons_in_order, tested, ordered_tested}
use Rattle.lsm_mem.proofs.FirstLaws.{is_before_rest}

pub less_from_greater : (x y : Version) → entry_order x y ≡ Greater → entry_order y x ≡ Less
less_from_greater x y e = entry_order_total.antisymm y x ∙ ap ordering_reverse e

pub greater_from_less : (x y : Version) → entry_order x y ≡ Less → entry_order y x ≡ Greater
greater_from_less x y e = entry_order_total.antisymm y x ∙ ap ordering_reverse e

pub order_of_tied : (x y z : Version) → entry_order x y ≡ Equal → entry_order x z ≡ entry_order y z
order_of_tied x y z e = entry_order_total.congr x y z e

-- by_order at each answer
pub by_less : {A : Type 0} (o : Ordering) (a b c : A) → o ≡ Less → by_order o a b c ≡ a
by_less o a b c e = ap (λ r. by_order r a b c) e

pub by_equal : {A : Type 0} (o : Ordering) (a b c : A) → o ≡ Equal → by_order o a b c ≡ b
by_equal o a b c e = ap (λ r. by_order r a b c) e

pub by_greater : {A : Type 0} (o : Ordering) (a b c : A) → o ≡ Greater → by_order o a b c ≡ c
by_greater o a b c e = ap (λ r. by_order r a b c) e

-- what comes before the first of a list comes before each of what is placed in it
pub placed_first : (v : Version) (entries : List Version) → is_before v entries ≡ true → placed v entries ≡ v ∷ entries
placed_first v [] h = refl
placed_first v (w ∷ rest) h = by_less (entry_order v w) _ _ _ (is_lt_Less _ h)

is_before-by_order : (x v w : Version) (rest : List Version) (o : Ordering) → is_lt (entry_order x v) ≡ true → is_lt (entry_order x w) ≡ true → is_before x (by_order o (v ∷ w ∷ rest) (v ∷ rest) (w ∷ placed v rest)) ≡ true
is_before-by_order x v w rest Less h k = h
is_before-by_order x v w rest Equal h k = h
is_before-by_order x v w rest Greater h k = k

pub is_before-placed : (x v : Version) (entries : List Version) → is_lt (entry_order x v) ≡ true → is_before x entries ≡ true → is_before x (placed v entries) ≡ true
is_before-placed x v [] h k = h
is_before-placed x v (w ∷ rest) h k = is_before-by_order x v w rest (entry_order v w) h k

pub is_before_tied : (x y : Version) (rest : List Version) → entry_order x y ≡ Equal → is_before y rest ≡ is_before x rest
is_before_tied x y [] e = refl
is_before_tied x y (w ∷ rest) e = ap is_lt (sym (order_of_tied x y w e))

pub is_before-all_placed : (x : Version) (left right : List Version) → is_in_order (x ∷ left) ≡ true → is_before x right ≡ true → is_before x (all_placed left right) ≡ true
is_before-all_placed x [] right h k = k
is_before-all_placed x (v ∷ rest) right h k =
    let a = in_order_cons x (v ∷ rest) h in
    let b = in_order_cons v rest a.1 in
    is_before-placed x v (all_placed rest right) a.0
    (is_before-all_placed x rest right (cons_in_order x rest (is_before_rest x v rest (is_lt_Less _ a.0) b.0) b.1) k)

-- the first of the left list comes before all of the right one
pub all_placed_left_first : (x : Version) (left right : List Version) → is_in_order (x ∷ left) ≡ true → is_before x right ≡ true → all_placed (x ∷ left) right ≡ x ∷ all_placed left right
all_placed_left_first x left right h k = placed_first x (all_placed left right) (is_before-all_placed x left right h k)

-- what comes before all of the left list stays first
pub all_placed_right_first : (y : Version) (left right : List Version) → is_in_order (y ∷ left) ≡ true → all_placed left (y ∷ right) ≡ y ∷ all_placed left right
all_placed_right_first y [] right h = refl
all_placed_right_first y (v ∷ rest) right h =
    let a = in_order_cons y (v ∷ rest) h in
    let b = in_order_cons v rest a.1 in
    let less = is_lt_Less _ a.0 in
    ap (placed v) (all_placed_right_first y rest right (cons_in_order y rest (is_before_rest y v rest less b.0) b.1))
    ∙ by_greater (entry_order v y) _ _ _ (greater_from_less y v less)

-- of two with one key and number the left one stays
pub all_placed_tied : (x y : Version) (left right : List Version) → entry_order x y ≡ Equal → is_in_order (x ∷ left) ≡ true → all_placed (x ∷ left) (y ∷ right) ≡ x ∷ all_placed left right
all_placed_tied x y left right e h =
    let a = in_order_cons x left h in
    ap (placed x) (all_placed_right_first y left right (cons_in_order y left (is_before_tied x y left e ∙ a.0) a.1))
    ∙ by_equal (entry_order x y) _ _ _ e

-- a list in order is its versions in order
pub all_placed-nil : (entries : List Version) → is_in_order entries ≡ true → all_placed entries [] ≡ entries
all_placed-nil [] h = refl
all_placed-nil (v ∷ rest) h =
    let a = in_order_cons v rest h in
    ap (placed v) (all_placed-nil rest a.1) ∙ placed_first v rest a.0

-- what a version takes the place of
placed-by_order : (v w : Version) (rest : List Version) (o : Ordering) → entry_order v w ≡ o → is_in_order (w ∷ rest) ≡ true → is_in_order (placed v rest) ≡ true → is_in_order (by_order o (v ∷ w ∷ rest) (v ∷ rest) (w ∷ placed v rest)) ≡ true
placed-by_order v w rest Less e h k = cons_in_order v (w ∷ rest) (ap is_lt e) h
placed-by_order v w rest Equal e h k =
    let a = in_order_cons w rest h in
    cons_in_order v rest (sym (is_before_tied v w rest e) ∙ a.0) a.1
placed-by_order v w rest Greater e h k =
    let a = in_order_cons w rest h in
    cons_in_order w (placed v rest) (is_before-placed w v rest (ap is_lt (less_from_greater v w e)) a.0) k

pub is_in_order-placed : (v : Version) (entries : List Version) → is_in_order entries ≡ true → is_in_order (placed v entries) ≡ true
is_in_order-placed v [] h = refl
is_in_order-placed v (w ∷ rest) h =
    placed-by_order v w rest (entry_order v w) refl h (is_in_order-placed v rest (in_order_cons w rest h).1)

pub is_in_order-all_placed : (left right : List Version) → is_in_order right ≡ true → is_in_order (all_placed left right) ≡ true
is_in_order-all_placed [] right h = h
is_in_order-all_placed (v ∷ rest) right h = is_in_order-placed v (all_placed rest right) (is_in_order-all_placed rest right h)

-- the first of two lists in order, by the order of their first versions
pub record FirstOf (left right : List (Bor Version)) (x y : Bor Version) : Type 0 where
  pub left_ordered : AreOrdered (shown left)
  pub right_ordered : AreOrdered (shown right)
  pub left_has_one : 0 < length left
  pub right_has_one : 0 < length right
  pub left_first : x ≡ get_or left 0 x
  pub right_first : y ≡ get_or right 0 y

pub takes_less : (left right : List (Bor Version)) (x y : Bor Version) → FirstOf left right x y → entry_order x.now y.now ≡ Less → TakesFirst left right x.now 1 0
takes_less [] right x y h o = let k : 0 < 0 = h.left_has_one in absurd (omega arith)
takes_less (a ∷ left) [] x y h o = let k : 0 < 0 = h.right_has_one in absurd (omega arith)
takes_less (a ∷ left) (b ∷ right) x y h o =
    let e : x ≡ a = h.left_first in
    let f : y ≡ b = h.right_first in
    let order : entry_order a.now b.now ≡ Less = subst (λ z. entry_order z.now b.now ≡ Less) e (subst (λ z. entry_order x.now z.now ≡ Less) f o) in
    record {
      splits = all_placed_left_first a.now (shown left) (b.now ∷ shown right) (tested (a.now ∷ shown left) h.left_ordered) (ap is_lt order) ∙ ap (λ z. z.now ∷ all_placed (shown left) (b.now ∷ shown right)) (sym e);
      left_ordered = ordered_tested (shown left) (in_order_cons a.now (shown left) (tested (a.now ∷ shown left) h.left_ordered)).1;
      right_ordered = h.right_ordered;
      left_within = omega arith;
      right_within = omega arith;
      takes = omega arith;
    }

pub takes_equal : (left right : List (Bor Version)) (x y : Bor Version) → FirstOf left right x y → entry_order x.now y.now ≡ Equal → TakesFirst left right x.now 1 1
takes_equal [] right x y h o = let k : 0 < 0 = h.left_has_one in absurd (omega arith)
takes_equal (a ∷ left) [] x y h o = let k : 0 < 0 = h.right_has_one in absurd (omega arith)
takes_equal (a ∷ left) (b ∷ right) x y h o =
    let e : x ≡ a = h.left_first in
    let f : y ≡ b = h.right_first in
    let order : entry_order a.now b.now ≡ Equal = subst (λ z. entry_order z.now b.now ≡ Equal) e (subst (λ z. entry_order x.now z.now ≡ Equal) f o) in
    record {
      splits = all_placed_tied a.now b.now (shown left) (shown right) order (tested (a.now ∷ shown left) h.left_ordered) ∙ ap (λ z. z.now ∷ all_placed (shown left) (shown right)) (sym e);
      left_ordered = ordered_tested (shown left) (in_order_cons a.now (shown left) (tested (a.now ∷ shown left) h.left_ordered)).1;
      right_ordered = ordered_tested (shown right) (in_order_cons b.now (shown right) (tested (b.now ∷ shown right) h.right_ordered)).1;
      left_within = omega arith;
      right_within = omega arith;
      takes = omega arith;
    }

pub takes_greater : (left right : List (Bor Version)) (x y : Bor Version) → FirstOf left right x y → entry_order x.now y.now ≡ Greater → TakesFirst left right y.now 0 1
takes_greater [] right x y h o = let k : 0 < 0 = h.left_has_one in absurd (omega arith)
takes_greater (a ∷ left) [] x y h o = let k : 0 < 0 = h.right_has_one in absurd (omega arith)
takes_greater (a ∷ left) (b ∷ right) x y h o =
    let e : x ≡ a = h.left_first in
    let f : y ≡ b = h.right_first in
    let order : entry_order a.now b.now ≡ Greater = subst (λ z. entry_order z.now b.now ≡ Greater) e (subst (λ z. entry_order x.now z.now ≡ Greater) f o) in
    let first : is_in_order (b.now ∷ a.now ∷ shown left) ≡ true = cons_in_order b.now (a.now ∷ shown left) (ap is_lt (less_from_greater a.now b.now order)) (tested (a.now ∷ shown left) h.left_ordered) in
    record {
      splits = all_placed_right_first b.now (a.now ∷ shown left) (shown right) first ∙ ap (λ z. z.now ∷ all_placed (a.now ∷ shown left) (shown right)) (sym f);
      left_ordered = h.left_ordered;
      right_ordered = ordered_tested (shown right) (in_order_cons b.now (shown right) (tested (b.now ∷ shown right) h.right_ordered)).1;
      left_within = omega arith;
      right_within = omega arith;
      takes = omega arith;
    }

-- with one of two lists at its end, the rest of the other
pub all_placed_at_end : (left right : List Version) → is_in_order left ≡ true → (length left ≡ 0) ⊎ (length right ≡ 0) → all_placed left right ≡ left ++ right
all_placed_at_end [] right h e = refl
all_placed_at_end (v ∷ left) [] h e = all_placed-nil (v ∷ left) h ∙ sym (append-nil (v ∷ left))
all_placed_at_end (v ∷ left) (w ∷ right) h e = absurd (neither (length left) (length right) e)
  where
    neither : (m n : ℕ) → (suc m ≡ 0) ⊎ (suc n ≡ 0) → ⊥
    neither m n (inl a) = omega arith
    neither m n (inr a) = omega arith

pub shown_at_end : (both left right : List (Bor Version)) → AreOrdered (shown left) → (length left ≡ 0) ⊎ (length right ≡ 0) → shown ((both ++ left) ++ right) ≡ shown both ++ all_placed (shown left) (shown right)
shown_at_end both left right h e =
    let k : (length (shown left) ≡ 0) ⊎ (length (shown right) ≡ 0) = elim e [ inl a ↦ inl (simp length-map a) | inr b ↦ inr (simp length-map b) ] in
    map-append (λ z. z.now) (both ++ left) right ∙ ap (λ z. z ++ shown right) (map-append (λ z. z.now) both left) ∙ append_assoc (shown both) (shown left) (shown right) ∙ ap (λ z. shown both ++ z) (sym (all_placed_at_end (shown left) (shown right) (tested (shown left) h) k))
