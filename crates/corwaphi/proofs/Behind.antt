-- The pairs of a map after a page of them.
use Rattle.std.proofs.Common.{◌≡◌, ℕ, zero, suc, Bool, true, false, ◌&&◌, cond, List, [], ◌∷◌, ◌++◌, take, drop, filter, Option, Some, None, refl, sym, ap, subst, ◌∙◌}
use Rattle.std.specs.Prelude.{T}
use Rattle.std.specs.List.{AllByRecursion}
use Rattle.std.specs.declared.cmp.Ordering.{Ordering}
use Rattle.std.specs.declared.cmp.Ordering.TheVariants.{Less, Equal, Greater}
use Rattle.std.specs.Ordering.{is_lt, is_le}
use Rattle.std.specs.FinMap as finite
use Rattle.std.specs.FinMap.{is_sorted, entries_sorted}
use Rattle.std.specs.FinMap.Entries.{below_all}
use Rattle.std.proofs.lemmas.List.{take-append-drop}
use Rattle.lsm_codec.specs.Keys.{Bytes, byte_order}
use Rattle.lsm_codec.specs.Map.{Map}
use Rattle.lsm_codec.proofs.KeyOrder.{is_lt_Less, is_eq_Equal, key_itself, less_greater, below_both, tied_below}
use Rattle.lsm_mem.specs.Paging.{Page, is_before, first_key, pairs_in, page_of}
use Rattle.corwaphi.specs.Advancing.{pairs_from}

abbrev Pairs : Type 0
Pairs = List (Bytes × Bytes)

-- ---- rising keys

abbrev AreAbove : Bytes → Pairs → Type 0
AreAbove key es = AllByRecursion (λ pair. byte_order key pair.0 ≡ Less) es

abbrev Rise : Pairs → Type 0
Rise [] = Unit {0}
Rise (e ∷ es) = AreAbove e.0 es × Rise es

holds : (b : Bool) → T b → b ≡ true
holds true h = refl
holds false h = absurd h

both : (a b : Bool) → T (a && b) → T a × T b
both true b h = (tt, h)
both false b h = absurd h

above_all : (key : Bytes) (es : Pairs) → T (below_all byte_order key es) → AreAbove key es
above_all key [] h = tt
above_all key (e ∷ es) h =
    let parts = both (is_lt (byte_order key e.0)) (below_all byte_order key es) h in
    (is_lt_Less (byte_order key e.0) (holds (is_lt (byte_order key e.0)) parts.0), above_all key es parts.1)

rising : (es : Pairs) → T (is_sorted byte_order es) → Rise es
rising [] h = tt
rising (e ∷ es) h =
    let parts = both (below_all byte_order e.0 es) (is_sorted byte_order es) h in
    (above_all e.0 es parts.0, rising es parts.1)

-- ---- the pairs before the end of a range

abbrev before : Option Bytes → Pairs → Pairs
before to es = filter (λ pair. is_before to pair.0) es

above_before : (key : Bytes) (to : Option Bytes) (es : Pairs) → AreAbove key es → AreAbove key (before to es)
above_before key to [] h = tt
above_before key to (e ∷ es) h = by (is_before to e.0) (above_before key to es h.1)
  where
    by : (b : Bool) → AreAbove key (before to es) → AreAbove key (cond b (e ∷ before to es) (before to es))
    by true later = (h.0, later)
    by false later = later

rise_before : (to : Option Bytes) (es : Pairs) → Rise es → Rise (before to es)
rise_before to [] h = tt
rise_before to (e ∷ es) h = by (is_before to e.0) (rise_before to es h.1)
  where
    by : (b : Bool) → Rise (before to es) → Rise (cond b (e ∷ before to es) (before to es))
    by true later = (above_before e.0 to es h.0, later)
    by false later = later

-- ---- the pairs from a key on

abbrev from_on : Bytes → Pairs → Pairs
from_on from es = filter (λ pair. is_le (byte_order from pair.0)) es

-- those in a range are those from its begin on of those before its end
range_splits : (from : Bytes) (to : Option Bytes) (es : Pairs) → filter (λ pair. is_le (byte_order from pair.0) && is_before to pair.0) es ≡ from_on from (before to es)
range_splits from to [] = refl
range_splits from to (e ∷ es) = by (is_le (byte_order from e.0)) (is_before to e.0) refl (range_splits from to es)
  where
    by : (a b : Bool) → is_le (byte_order from e.0) ≡ a → filter (λ pair. is_le (byte_order from pair.0) && is_before to pair.0) es ≡ from_on from (before to es)
        → cond (a && b) (e ∷ filter (λ pair. is_le (byte_order from pair.0) && is_before to pair.0) es) (filter (λ pair. is_le (byte_order from pair.0) && is_before to pair.0) es)
        ≡ from_on from (cond b (e ∷ before to es) (before to es))
    by true true is later = ap (λ (l : Pairs). e ∷ l) later ∙ sym (ap (λ (x : Bool). cond x (e ∷ from_on from (before to es)) (from_on from (before to es))) is)
    by true false is later = later
    by false true is later = later ∙ sym (ap (λ (x : Bool). cond x (e ∷ from_on from (before to es)) (from_on from (before to es))) is)
    by false false is later = later

step : (from : Bytes) (e : Bytes × Bytes) (es : Pairs) (b : Bool) → is_le (byte_order from e.0) ≡ b → from_on from (e ∷ es) ≡ cond b (e ∷ from_on from es) (from_on from es)
step from e es b is = ap (λ (x : Bool). cond x (e ∷ from_on from es) (from_on from es)) is

above_from : (key from : Bytes) (es : Pairs) → AreAbove key es → AreAbove key (from_on from es)
above_from key from [] h = tt
above_from key from (e ∷ es) h = by (is_le (byte_order from e.0)) (above_from key from es h.1)
  where
    by : (b : Bool) → AreAbove key (from_on from es) → AreAbove key (cond b (e ∷ from_on from es) (from_on from es))
    by true later = (h.0, later)
    by false later = later

above_dropped : (key : Bytes) (n : ℕ) (es : Pairs) → AreAbove key es → AreAbove key (drop n es)
above_dropped key zero es h = h
above_dropped key (suc n) [] h = tt
above_dropped key (suc n) (e ∷ es) h = above_dropped key n es h.1

above_first : (key k : Bytes) (es : Pairs) → AreAbove key es → first_key es ≡ Some k → byte_order key k ≡ Less
above_first key k [] h e = cc
above_first key k (x ∷ es) h e = let same : x.0 ≡ k = cc in subst (λ (a : Bytes). byte_order key a ≡ Less) same h.0

far : (key from k : Bytes) (n : ℕ) (es : Pairs) → AreAbove key es → first_key (drop n (from_on from es)) ≡ Some k → byte_order key k ≡ Less
far key from k n es h e = above_first key k (drop n (from_on from es)) (above_dropped key n (from_on from es) (above_from key from es h)) e

-- a pair below a key is not from it on
left_out : (k : Bytes) (e : Bytes × Bytes) (es : Pairs) → byte_order e.0 k ≡ Less → from_on k (e ∷ es) ≡ from_on k es
left_out k e es h = step k e es false (ap is_le (less_greater e.0 k h))

-- pairs above one that is from a key on are so too
all_from : (from : Bytes) (es : Pairs) → AreAbove from es → from_on from es ≡ es
all_from from [] h = refl
all_from from (e ∷ es) h = step from e es true (ap is_le h.0) ∙ ap (λ (t : Pairs). e ∷ t) (all_from from es h.1)

at_most_below : (a b c : Bytes) → is_le (byte_order a b) ≡ true → byte_order b c ≡ Less → byte_order a c ≡ Less
at_most_below a b c le lt = by (byte_order a b) refl
  where
    by : (r : Ordering) → byte_order a b ≡ r → byte_order a c ≡ Less
    by Less is = below_both a b c is lt
    by Equal is = tied_below a b c is lt
    by Greater is = absurd (cc (sym (ap is_le is) ∙ le))

above_both : (from key : Bytes) (es : Pairs) → is_le (byte_order from key) ≡ true → AreAbove key es → AreAbove from es
above_both from key [] le h = tt
above_both from key (e ∷ es) le h = (at_most_below from key e.0 le h.0, above_both from key es le h.1)

itself : (key : Bytes) → is_le (byte_order key key) ≡ true
itself key = ap is_le (is_eq_Equal (byte_order key key) (key_itself key))

-- after the first n pairs from a key on come those from the next key
goes_on : (from k : Bytes) (n : ℕ) (es : Pairs) → Rise es → first_key (drop n (from_on from es)) ≡ Some k → from_on k es ≡ drop n (from_on from es)
goes_on from k zero [] h e = refl
goes_on from k (suc n) [] h e = refl
goes_on from k n (x ∷ es) h e = by (is_le (byte_order from x.0)) n refl (λ m first. goes_on from k m es h.1 first) e
  where
    kept : (n : ℕ) → is_le (byte_order from x.0) ≡ true → ((m : ℕ) → first_key (drop m (from_on from es)) ≡ Some k → from_on k es ≡ drop m (from_on from es))
        → first_key (drop n (x ∷ from_on from es)) ≡ Some k → from_on k (x ∷ es) ≡ drop n (x ∷ from_on from es)
    kept zero is later first =
        let same : x.0 ≡ k = cc in
        subst (λ (a : Bytes). from_on a (x ∷ es) ≡ x ∷ from_on from es) same
        (step x.0 x es true (itself x.0) ∙ ap (λ (t : Pairs). x ∷ t) (all_from x.0 es h.0 ∙ sym (all_from from es (above_both from x.0 es is h.0))))
    kept (suc n) is later first = left_out k x es (far x.0 from k n es h.0 first) ∙ later n first

    by : (b : Bool) (n : ℕ) → is_le (byte_order from x.0) ≡ b → ((m : ℕ) → first_key (drop m (from_on from es)) ≡ Some k → from_on k es ≡ drop m (from_on from es))
        → first_key (drop n (from_on from (x ∷ es))) ≡ Some k → from_on k (x ∷ es) ≡ drop n (from_on from (x ∷ es))
    by true n is later first =
        let whole = step from x es true is in
        kept n is later (ap (λ (t : Pairs). first_key (drop n t)) (sym whole) ∙ first) ∙ ap (drop n) (sym whole)
    by false n is later first =
        let rest = step from x es false is in
        let here = ap (λ (t : Pairs). first_key (drop n t)) (sym rest) ∙ first in
        left_out k x es (far x.0 from k n es h.0 here) ∙ later n here ∙ ap (drop n) (sym rest)

-- ---- a page, and what comes after it

none_first : (es : Pairs) → first_key es ≡ None → es ≡ []
none_first [] e = refl
none_first (x ∷ es) e = cc

-- the pairs of a range after the first n, where this key is the first of them
pairs_on : (m : Map) (from k : Bytes) (to : Option Bytes) (n : ℕ) → first_key (drop n (pairs_in m from to)) ≡ Some k → pairs_in m k to ≡ drop n (pairs_in m from to)
pairs_on m from k to n first =
    let splits = range_splits from to (finite.entries m) in
    range_splits k to (finite.entries m)
    ∙ goes_on from k n (before to (finite.entries m)) (rise_before to (finite.entries m) (rising (finite.entries m) (entries_sorted m))) (ap (λ (l : Pairs). first_key (drop n l)) (sym splits) ∙ first)
    ∙ ap (drop n) (sym splits)

behind : (m : Map) (from : Bytes) (to : Option Bytes) (n : ℕ) (next : Option Bytes) → first_key (drop n (pairs_in m from to)) ≡ next → pairs_from m next to ≡ drop n (pairs_in m from to)
behind m from to n (Some k) first = pairs_on m from k to n first
behind m from to n None first = sym (none_first (drop n (pairs_in m from to)) first)

-- a page, and the pairs from the key after it, are all pairs of the range
pub page_and_rest : (m : Map) (from : Bytes) (to : Option Bytes) (n : ℕ) (page : Page) → page ≡ page_of m from to n → page.rows ++ pairs_from m page.next to ≡ pairs_in m from to
page_and_rest m from to n page is =
    subst (λ (p : Page). p.rows ++ pairs_from m p.next to ≡ pairs_in m from to) (sym is)
    (ap (λ (l : Pairs). take n (pairs_in m from to) ++ l) (behind m from to n (first_key (drop n (pairs_in m from to))) refl) ∙ take-append-drop n (pairs_in m from to))

-- so a page without a row has none after it
pub none_behind : (m : Map) (from : Bytes) (to : Option Bytes) (n : ℕ) (page : Page) → page ≡ page_of m from to (suc n) → page.rows ≡ [] → pairs_from m page.next to ≡ []
none_behind m from to n page is none =
    let empty = empties (pairs_in m from to) (sym (ap (λ (p : Page). p.rows) is) ∙ none) in
    ap (λ (l : Pairs). l ++ pairs_from m page.next to) (sym none) ∙ page_and_rest m from to (suc n) page is ∙ empty
  where
    empties : (es : Pairs) → take (suc n) es ≡ [] → es ≡ []
    empties [] e = refl
    empties (x ∷ es) e = cc
