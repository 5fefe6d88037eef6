-- The order of keys as a test.
use Rattle.std.proofs.Common.{◌≡◌, Bool, true, false, not, refl, ap, sym, ◌∙◌}
use Rattle.std.proofs.lemmas.Cmp.{upto, nat_list_cmp_total, tied_itself}
use Rattle.std.specs.declared.cmp.Ordering.{Ordering}
use Rattle.std.specs.declared.cmp.Ordering.TheVariants.{Less, Equal, Greater}
use Rattle.std.specs.Ordering.{is_lt, is_le, is_gt, ordering_reverse}
use Rattle.lsm_codec.specs.Keys.{Bytes, byte_order}
use Rattle.lsm_levels.specs.Tables.{at_most, is_below}
use Rattle.lsm_mem.proofs.FirstLaws.{lt_is_le}

le_gt : (r : Ordering) → is_le r ≡ not (is_gt r)
le_gt Less = refl
le_gt Equal = refl
le_gt Greater = refl

reversed_le : (r : Ordering) → is_le (ordering_reverse r) ≡ not (is_lt r)
reversed_le Less = refl
reversed_le Equal = refl
reversed_le Greater = refl

not_true : (b : Bool) → not b ≡ true → b ≡ false
not_true true h = absurd cc
not_true false h = refl

pub at_most_trans : (a b c : Bytes) → at_most a b ≡ true → at_most b c ≡ true → at_most a c ≡ true
at_most_trans a b c h k =
    le_gt (byte_order a c) ∙ ap not (upto nat_list_cmp_total a b c (not_true (is_gt (byte_order a b)) (sym (le_gt (byte_order a b)) ∙ h)) (not_true (is_gt (byte_order b c)) (sym (le_gt (byte_order b c)) ∙ k)))

-- at most, turned round
pub at_most_turned : (a b : Bytes) → at_most b a ≡ not (is_below a b)
at_most_turned a b = ap is_le (nat_list_cmp_total.antisymm b a) ∙ reversed_le (byte_order a b)

pub not_below : (a b : Bytes) → at_most b a ≡ false → is_below a b ≡ true
not_below a b h = by (is_below a b) (sym (at_most_turned a b) ∙ h)
  where
    by : (x : Bool) → not x ≡ false → x ≡ true
    by true e = refl
    by false e = absurd cc

pub below_not : (a b : Bytes) → is_below a b ≡ true → at_most b a ≡ false
below_not a b h = at_most_turned a b ∙ ap not h

pub below_at_most : (a b : Bytes) → is_below a b ≡ true → at_most a b ≡ true
below_at_most a b h = lt_is_le (byte_order a b) h

gt_le : (r : Ordering) → is_le r ≡ false → is_le (ordering_reverse r) ≡ true
gt_le Less h = absurd cc
gt_le Equal h = absurd cc
gt_le Greater h = refl

-- of two keys one is at most the other
pub at_most_total : (a b : Bytes) → at_most a b ≡ false → at_most b a ≡ true
at_most_total a b h = ap is_le (nat_list_cmp_total.antisymm b a) ∙ gt_le (byte_order a b) h

pub at_most_itself : (a : Bytes) → at_most a a ≡ true
at_most_itself a = ap is_le (tied_itself nat_list_cmp_total a)

-- below, then at most
pub below_then : (a b c : Bytes) → is_below a b ≡ true → at_most b c ≡ true → is_below a c ≡ true
below_then a b c h k = not_below a c (by (at_most c a) refl)
  where
    by : (x : Bool) → at_most c a ≡ x → at_most c a ≡ false
    by false e = e
    by true e = absurd (let no : true ≡ false = sym (at_most_trans b c a k e) ∙ below_not a b h in cc)

-- at most, then below
pub then_below : (a b c : Bytes) → at_most a b ≡ true → is_below b c ≡ true → is_below a c ≡ true
then_below a b c h k = not_below a c (by (at_most c a) refl)
  where
    by : (x : Bool) → at_most c a ≡ x → at_most c a ≡ false
    by false e = e
    by true e = absurd (let no : true ≡ false = sym (at_most_trans c a b e h) ∙ below_not b c k in cc)

pub below_is : (a b : Bytes) → is_below a b ≡ not (at_most b a)
below_is a b = by (is_below a b) refl
  where
    by : (x : Bool) → is_below a b ≡ x → x ≡ not (at_most b a)
    by true e = sym (ap not (at_most_turned a b ∙ ap not e))
    by false e = sym (ap not (at_most_turned a b ∙ ap not e))
