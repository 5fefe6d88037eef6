-- The pages of a whole scan list the map.
use Rattle.std.proofs.Common.{◌≡◌, ◌⊎◌, inl, inr, ◌<◌, ℕ, zero, suc, Bool, true, false, ◌&&◌, cond, List, [], ◌∷◌, ◌++◌, length, take, drop, filter, Option, Some, None, refl, sym, ap, subst, ◌∙◌, arith}
use Rattle.std.specs.Prelude.{T, IsTrue, IsNone, ◌↔◌}
use Rattle.std.specs.List.{AllByRecursion}
use Rattle.std.specs.declared.cmp.Ordering.{Ordering}
use Rattle.std.specs.declared.cmp.Ordering.TheVariants.{Less, Equal, Greater}
use Rattle.std.specs.Ordering.{is_lt, is_le}
use Rattle.std.specs.FinMap as finite
use Rattle.std.specs.FinMap.{is_sorted, entries_sorted}
use Rattle.std.specs.FinMap.Entries.{below_all}
use Rattle.std.proofs.lemmas.Bool.{false≢true}
use Rattle.std.proofs.lemmas.List.{length-take, take-append-drop}
use Rattle.lsm_codec.specs.Keys.{Bytes, byte_order}
use Rattle.lsm_codec.specs.Map.{Map}
use Rattle.lsm_codec.proofs.KeyOrder.{is_lt_Less, is_eq_Equal, key_itself, less_greater, below_both, tied_below}
use Rattle.lsm_device.specs.declared.refusal.Refusal.{Refusal}
use Rattle.lsm_device.specs.declared.refusal.Refusal.TheVariants.{NoMemory, Io}
use Rattle.lsm_mem.specs.Paging.{Page, is_before, first_key, first_page, pairs_in, page_of}
use Rattle.lsm_machine.specs.declared.asked.At.TheVariants.{Now}
use Rattle.lsm_machine.specs.Calls.{Reply}
use Rattle.lsm_machine.specs.Calls.{Scan, Rows, Refused}
use Rattle.lsm_machine.specs.Effects.{reply_by}
use Rattle.lsm_store.specs.Backing.{StoreView, IsBacked}
use Rattle.lsm_machine.specs.RecoveryPoints.{present_map}
use Rattle.lsm_machine.specs.Refusals.{refusal}
use Rattle.lsm_root.specs.CrashState.{CrashState}
use Rattle.lsm_machine.specs.Run.{Allows}
use Rattle.lsm_store.specs.Serving.{Serves}
use Rattle.lsm_machine.specs.State.{State}

abbrev Pairs : Type 0
Pairs = List (Bytes × Bytes)

-- ---- rising keys

abbrev pub AreAbove : Bytes → Pairs → Type 0
AreAbove key es = AllByRecursion (λ pair. byte_order key pair.0 ≡ Less) es

abbrev pub Rise : Pairs → Type 0
Rise [] = Unit {0}
Rise (e ∷ es) = AreAbove e.0 es × Rise es

holds : (b : Bool) → T b → b ≡ true
holds true h = refl
holds false h = absurd h

both : (a b : Bool) → T (a && b) → T a × T b
both true b h = (tt, h)
both false b h = absurd h

above_all : (key : Bytes) (es : Pairs) → T (below_all byte_order key es) → AreAbove key es
above_all key [] h = tt
above_all key (e ∷ es) h =
    let parts = both (is_lt (byte_order key e.0)) (below_all byte_order key es) h in
    (is_lt_Less (byte_order key e.0) (holds (is_lt (byte_order key e.0)) parts.0), above_all key es parts.1)

pub rising : (es : Pairs) → T (is_sorted byte_order es) → Rise es
rising [] h = tt
rising (e ∷ es) h =
    let parts = both (below_all byte_order e.0 es) (is_sorted byte_order es) h in
    (above_all e.0 es parts.0, rising es parts.1)

-- ---- the pairs from a key on

abbrev from_on : Bytes → Pairs → Pairs
from_on from es = filter (λ pair. is_le (byte_order from pair.0) && is_before None pair.0) es

step : (from : Bytes) (e : Bytes × Bytes) (es : Pairs) (b : Bool) → is_le (byte_order from e.0) ≡ b → from_on from (e ∷ es) ≡ cond b (e ∷ from_on from es) (from_on from es)
step from e es b is = ap (λ (x : Bool). cond (x && true) (e ∷ from_on from es) (from_on from es)) is ∙ by b
  where
    by : (b : Bool) → cond (b && true) (e ∷ from_on from es) (from_on from es) ≡ cond b (e ∷ from_on from es) (from_on from es)
    by true = refl
    by false = refl

above_from : (key from : Bytes) (es : Pairs) → AreAbove key es → AreAbove key (from_on from es)
above_from key from [] h = tt
above_from key from (e ∷ es) h = by (is_le (byte_order from e.0)) refl (above_from key from es h.1)
  where
    by : (b : Bool) → is_le (byte_order from e.0) ≡ b → AreAbove key (from_on from es) → AreAbove key (from_on from (e ∷ es))
    by true is later = subst (AreAbove key) (sym (step from e es true is)) (h.0, later)
    by false is later = subst (AreAbove key) (sym (step from e es false is)) later

above_dropped : (key : Bytes) (n : ℕ) (es : Pairs) → AreAbove key es → AreAbove key (drop n es)
above_dropped key zero es h = h
above_dropped key (suc n) [] h = tt
above_dropped key (suc n) (e ∷ es) h = above_dropped key n es h.1

above_first : (key k : Bytes) (es : Pairs) → AreAbove key es → first_key es ≡ Some k → byte_order key k ≡ Less
above_first key k [] h e = cc
above_first key k (x ∷ es) h e = let same : x.0 ≡ k = cc in subst (λ (a : Bytes). byte_order key a ≡ Less) same h.0

far : (key from k : Bytes) (n : ℕ) (es : Pairs) → AreAbove key es → first_key (drop n (from_on from es)) ≡ Some k → byte_order key k ≡ Less
far key from k n es h e = above_first key k (drop n (from_on from es)) (above_dropped key n (from_on from es) (above_from key from es h)) e

-- a pair below a key is not from it on
left_out : (k : Bytes) (e : Bytes × Bytes) (es : Pairs) → byte_order e.0 k ≡ Less → from_on k (e ∷ es) ≡ from_on k es
left_out k e es h = step k e es false (ap is_le (less_greater e.0 k h))

-- pairs above one that is from a key on are so too
all_from : (from : Bytes) (es : Pairs) → AreAbove from es → from_on from es ≡ es
all_from from [] h = refl
all_from from (e ∷ es) h = step from e es true (ap is_le h.0) ∙ ap (λ (t : Pairs). e ∷ t) (all_from from es h.1)

at_most_below : (a b c : Bytes) → is_le (byte_order a b) ≡ true → byte_order b c ≡ Less → byte_order a c ≡ Less
at_most_below a b c le lt = by (byte_order a b) refl
  where
    by : (r : Ordering) → byte_order a b ≡ r → byte_order a c ≡ Less
    by Less is = below_both a b c is lt
    by Equal is = tied_below a b c is lt
    by Greater is = absurd (cc (sym (ap is_le is) ∙ le))

above_both : (from key : Bytes) (es : Pairs) → is_le (byte_order from key) ≡ true → AreAbove key es → AreAbove from es
above_both from key [] le h = tt
above_both from key (e ∷ es) le h = (at_most_below from key e.0 le h.0, above_both from key es le h.1)

itself : (key : Bytes) → is_le (byte_order key key) ≡ true
itself key = ap is_le (is_eq_Equal (byte_order key key) (key_itself key))

-- after the first n pairs from a key on come those from the next key
pub goes_on : (from k : Bytes) (n : ℕ) (es : Pairs) → Rise es → first_key (drop n (from_on from es)) ≡ Some k → from_on k es ≡ drop n (from_on from es)
goes_on from k zero [] h e = refl
goes_on from k (suc n) [] h e = refl
goes_on from k n (x ∷ es) h e = by (is_le (byte_order from x.0)) n refl (λ m first. goes_on from k m es h.1 first) e
  where
    kept : (n : ℕ) → is_le (byte_order from x.0) ≡ true → ((m : ℕ) → first_key (drop m (from_on from es)) ≡ Some k → from_on k es ≡ drop m (from_on from es))
        → first_key (drop n (x ∷ from_on from es)) ≡ Some k → from_on k (x ∷ es) ≡ drop n (x ∷ from_on from es)
    kept zero is later first =
        let same : x.0 ≡ k = cc in
        subst (λ (a : Bytes). from_on a (x ∷ es) ≡ x ∷ from_on from es) same
        (step x.0 x es true (itself x.0) ∙ ap (λ (t : Pairs). x ∷ t) (all_from x.0 es h.0 ∙ sym (all_from from es (above_both from x.0 es is h.0))))
    kept (suc n) is later first = left_out k x es (far x.0 from k n es h.0 first) ∙ later n first

    by : (b : Bool) (n : ℕ) → is_le (byte_order from x.0) ≡ b → ((m : ℕ) → first_key (drop m (from_on from es)) ≡ Some k → from_on k es ≡ drop m (from_on from es))
        → first_key (drop n (from_on from (x ∷ es))) ≡ Some k → from_on k (x ∷ es) ≡ drop n (from_on from (x ∷ es))
    by true n is later first =
        let whole = step from x es true is in
        kept n is later (ap (λ (t : Pairs). first_key (drop n t)) (sym whole) ∙ first) ∙ ap (drop n) (sym whole)
    by false n is later first =
        let rest = step from x es false is in
        let here = ap (λ (t : Pairs). first_key (drop n t)) (sym rest) ∙ first in
        left_out k x es (far x.0 from k n es h.0 here) ∙ later n here ∙ ap (drop n) (sym rest)

from_none : (es : Pairs) → from_on [] es ≡ es
from_none [] = refl
from_none (e ∷ es) = step [] e es true (by e.0) ∙ ap (λ (t : Pairs). e ∷ t) (from_none es)
  where
    by : (key : Bytes) → is_le (byte_order [] key) ≡ true
    by [] = refl
    by (b ∷ bs) = refl

-- ---- a page, and what comes after it

take_same : (n : ℕ) (es : Pairs) → take (length (take n es)) es ≡ take n es
take_same zero es = refl
take_same (suc n) [] = refl
take_same (suc n) (e ∷ es) = ap (λ (l : Pairs). e ∷ l) (take_same n es)

drop_same : (n : ℕ) (es : Pairs) → drop (length (take n es)) es ≡ drop n es
drop_same zero es = refl
drop_same (suc n) [] = refl
drop_same (suc n) (e ∷ es) = drop_same n es

none_first : (es : Pairs) → first_key es ≡ None → es ≡ []
none_first [] e = refl
none_first (x ∷ es) e = cc

no_key : (es : Pairs) (k : Bytes) → es ≡ [] → first_key es ≡ Some k → ⊥
no_key [] k is e = cc
no_key (x ∷ es) k is e = cc

pub is_not : (Q : Type 0) → (Q → ⊥) → IsTrue false ↔ Q
is_not Q not = (λ h. absurd (false≢true h), λ q. absurd (not q))

-- rows, and the page that a scan of these pairs gave
module _ (pairs rows : Pairs) (page : Page) (count : ℕ) (is : page ≡ first_page 64 pairs) (counted : count ≡ length page.rows) where
  these : page.rows ≡ take 64 pairs
  these = ap (λ (p : Page). p.rows) is

  as_long : count ≡ length (take 64 pairs)
  as_long = counted ∙ ap length these

  front : take count pairs ≡ page.rows
  front = ap (λ (n : ℕ). take n pairs) as_long ∙ take_same 64 pairs ∙ sym these

  back : drop count pairs ≡ drop 64 pairs
  back = ap (λ (n : ℕ). drop n pairs) as_long ∙ drop_same 64 pairs

  pub too_few : length rows < count → rows ≡ pairs → ⊥
  too_few few same = omega (arith, few, as_long, length-take 64 pairs, ap length same)

  pub others : (b : Bool) → b ≡ false → (IsTrue b ↔ (take count rows ≡ page.rows)) → rows ≡ pairs → ⊥
  others b is_no tells same = false≢true (sym is_no ∙ tells.1 (ap (λ (l : Pairs). take count l) same ∙ front))

  whole : take count rows ≡ page.rows → drop count rows ≡ drop 64 pairs → rows ≡ pairs
  whole first rest = sym (take-append-drop count rows) ∙ (λ i. (first ∙ sym front) i ++ (rest ∙ sym back) i) ∙ take-append-drop count pairs

  -- the last page
  pub last : (b : Bool) → IsTrue b → (IsTrue b ↔ (take count rows ≡ page.rows)) → page.next ≡ None → (c : Bool) → (IsTrue c ↔ (length (drop count rows) ≡ 0)) → IsTrue c ↔ (rows ≡ pairs)
  last b is_yes tells none c empty =
      let ends : drop 64 pairs ≡ [] = none_first (drop 64 pairs) (sym (ap (λ (p : Page). p.next) is) ∙ none) in
      (λ h. whole (tells.0 is_yes) (no_rows (drop count rows) (empty.0 h) ∙ sym ends), λ same. empty.1 (ap length (ap (λ (l : Pairs). drop count l) same ∙ back ∙ ends)))
    where
      no_rows : (es : Pairs) → length es ≡ 0 → es ≡ []
      no_rows [] e = refl
      no_rows (x ∷ es) e = absurd (omega arith)

  module _ (key : Bytes) (next : page.next ≡ Some key) where
    first_behind : first_key (drop 64 pairs) ≡ Some key
    first_behind = sym (ap (λ (p : Page). p.next) is) ∙ next

    -- a page without a row leaves none out
    pub some_rows : count ≡ 0 → ⊥
    some_rows none = no_key (drop 64 pairs) key (empty pairs (omega (arith, none, as_long))) first_behind
      where
        empty : (es : Pairs) → length (take 64 es) ≡ 0 → drop 64 es ≡ []
        empty [] e = refl
        empty (x ∷ es) e = absurd (omega arith)

    -- a page that leaves some out
    pub more : (b : Bool) → IsTrue b → (IsTrue b ↔ (take count rows ≡ page.rows)) → (behind : Pairs) → behind ≡ drop 64 pairs → (c : Bool) → (IsTrue c ↔ (drop count rows ≡ behind)) → IsTrue c ↔ (rows ≡ pairs)
    more b is_yes tells behind stands c rest =
        (λ h. whole (tells.0 is_yes) (rest.0 h ∙ stands), λ same. rest.1 (ap (λ (l : Pairs). drop count l) same ∙ back ∙ sym stands))

-- the pairs from the key that a page left out
pub pairs_behind : (m : Map) (from k : Bytes) (page : Page) → page ≡ page_of m from None 64 → page.next ≡ Some k → pairs_in m k None ≡ drop 64 (pairs_in m from None)
pairs_behind m from k page is next = goes_on from k 64 (finite.entries m) (rising (finite.entries m) (entries_sorted m)) (sym (ap (λ (p : Page). p.next) is) ∙ next)

-- all pairs
pub all_pairs : (m : Map) → pairs_in m [] None ≡ finite.entries m
all_pairs m = from_none (finite.entries m)

page_in : Page → Reply → Page
page_in other (Rows page) = page
page_in other reply = other

pub page_is : (s : State) (from : Bytes) (n : ℕ) (page : Page) (refused : Option Refusal) → Rows page ≡ reply_by s (Scan Now from None n) refused
    → page ≡ page_of (present_map s.points) from None n
unfolding page_in
page_is s from n page None e = ap (page_in page) e
page_is s from n page (Some refusal) e = cc

-- what a scan of a store does that its device backs
pub record IsScanned (old : StoreView) (from : Bytes) (page : Page) (new : StoreView) : Type 0 where
  pub page_of_map : page ≡ page_of (present_map old.state.points) from None 64
  pub same : new.state ≡ old.state

pub scanned : (old new : StoreView) (from : Bytes) (page : Page) → IsBacked old → Serves old (Scan Now from None 64) (Rows page) new → IsScanned old from page new
scanned old new from page backed serves = record {
  page_of_map = page_is old.state from 64 page (refusal old.state (Scan Now from None 64)) (serves.allowed backed);
  same = serves.state;
}

-- ---- a scan that is refused

unrefused : (s : State) (from : Bytes) → IsNone s.stopped → refusal s (Scan Now from None 64) ≡ None
unrefused s from runs = by s.stopped refl runs
  where
    by : (o : Option (List CrashState)) → s.stopped ≡ o → IsNone o → refusal s (Scan Now from None 64) ≡ None
    by None is h = rw is refl
    by (Some others) is h = cc

not_refused : (s : State) (from : Bytes) (e : Refusal) → IsNone s.stopped → Refused e ≡ reply_by s (Scan Now from None 64) (refusal s (Scan Now from None 64)) → ⊥
not_refused s from e runs is =
    let rows : Refused e ≡ reply_by s (Scan Now from None 64) None = is ∙ ap (λ (o : Option Refusal). reply_by s (Scan Now from None 64) o) (unrefused s from runs) in
    cc

allowed_refusal : (s : State) (from : Bytes) (e : Refusal) → IsNone s.stopped → Allows s (Scan Now from None 64) (Refused e) → (e ≡ NoMemory) ⊎ (e ≡ Io)
allowed_refusal s from NoMemory runs allows = inl refl
allowed_refusal s from Io runs allows = inr refl
allowed_refusal s from e runs allows = absurd (not_refused s from e runs allows)

pub scan_refused : (old new : StoreView) (from : Bytes) (e : Refusal) → IsBacked old → IsNone old.state.stopped → Serves old (Scan Now from None 64) (Refused e) new → (e ≡ NoMemory) ⊎ (e ≡ Io)
scan_refused old new from e backed runs serves = allowed_refusal old.state from e runs (serves.allowed backed)
