-- The source that comes next, and the page that sources come to.
use Rattle.std.proofs.Common.{◌≡◌, ◌⊎◌, inl, inr, ⊎_elim, ℕ, zero, suc, ◌+◌, ◌<◌, Bool, true, false, cond, ◌&&◌, leb, List, [], ◌∷◌, ◌++◌, set, slice_get, Option, Some, None, option_and_then, refl, sym, ap, ◌∙◌, subst, arith}
use Rattle.std.specs.Option.{option_or}
use Rattle.std.specs.Cmp.{nat_cmp_is}
use Rattle.std.specs.List.{AllByRecursion}
use Rattle.std.specs.declared.cmp.Ordering.{Ordering}
use Rattle.std.specs.declared.cmp.Ordering.TheVariants.{Less, Equal, Greater}
use Rattle.std.specs.Ordering.{is_le, is_lt, nat_cmp, ordering_then}
use Rattle.std.specs.FinMap.{entries, entries_sorted, get-entries}
use Rattle.std.specs.FinMap.Entries.{is_sorted-where_key, find-where_key}
use Rattle.std.proofs.lemmas.Bool.{eq-eqb}
use Rattle.std.proofs.lemmas.Cmp.{ranked}
use Rattle.std.proofs.lemmas.List.{append_assoc}
use Rattle.std.proofs.lemmas.List.Elements.{recursion_from_All}
use Rattle.lsm_codec.specs.Keys.{Bytes, byte_order}
use Rattle.lsm_codec.specs.Versions.{Version, is_same_key, newer_of, newest, entry_order, AreOrdered}
use Rattle.lsm_codec.proofs.KeyOrder.{same_keys, same_key, key_itself, is_eq_Equal, is_lt_Less}
use Rattle.lsm_codec.proofs.Lists.{all_map, all_append, all_filter}
use Rattle.lsm_mem.specs.Versions.{value_at, map_of}
use Rattle.lsm_mem.specs.Ranges.{is_version, newest_each, from_key}
use Rattle.lsm_mem.specs.Paging.{is_before, first_page, pairs_in, page_of}
use Rattle.lsm_mem.specs.Gathering.{gathering, pairs_to_come, page_with, IsFirst}
use Rattle.lsm_mem.proofs.GatheringLaws.{behind_cases, below_other, come_sorted, come_find, same_pairs}
use Rattle.lsm_mem.proofs.Maps.{get-map_of}
use Rattle.lsm_mem.specs.Versions.{joined}
use Rattle.lsm_mem.proofs.FirstLaws.{first-filter, first_key}
use Rattle.lsm_mem.proofs.FirstLaws.{newest-first}
use Rattle.lsm_mem.proofs.OrderTests.{tested, ordered_tested}
use Rattle.lsm_mem.proofs.FirstLaws.{is_in_order-filter, newest-filter}
use Rattle.lsm_levels.specs.Orders.{IsNewerPlace, IsVersionOrder}
use Rattle.lsm_levels.specs.Sources.{IsLeftOf, AreLeftOf, AreInOrder, heads_of, head_at, is_sooner, comes_before, IsNext, Splits}
use Rattle.lsm_levels.proofs.NewestOf.{newest_place}
use Rattle.lsm_mem.proofs.FirstLaws.{unsome}

no : true ≡ false → ⊥
no e = cc

none_some : {X : Type 0} (a : X) → None ≡ Some a → ⊥
none_some a e = cc

-- ---- what comes after a version

key_less : (v x : Version) → byte_order v.key x.key ≡ Less → entry_order v x ≡ Less
key_less v x e = ap (λ (o : Ordering). ordering_then o (nat_cmp x.number v.number)) e

tied_older : (v x : Version) → v.key ≡ x.key → x.number < v.number → entry_order v x ≡ Less
tied_older v x e lt =
    ap (λ (o : Ordering). ordering_then o (nat_cmp x.number v.number)) (is_eq_Equal (byte_order v.key x.key) (subst (λ (k : Bytes). is_same_key v.key k ≡ true) e (key_itself v.key)))
    ∙ sym (nat_cmp_is x.number v.number Less lt)

-- what is of the first version's key or after it, and older where it is of the same key
later_one : (v w x : Version) → v.key ≡ w.key → entry_order w x ≡ Less → (v.key ≡ x.key → x.number < v.number) → entry_order v x ≡ Less
later_one v w x e k n =
    ⊎_elim (λ (l : byte_order w.key x.key ≡ Less). key_less v x (subst (λ (key : Bytes). byte_order key x.key ≡ Less) (sym e) l))
    (λ (s : (w.key ≡ x.key) × (x.number < w.number)). tied_older v x (e ∙ s.0) (n (e ∙ s.0))) (behind_cases w x k)

later_rest : (v w : Version) (xs : List Version) → v.key ≡ w.key → AllByRecursion (λ x. entry_order w x ≡ Less) xs → AllByRecursion (λ x. v.key ≡ x.key → x.number < v.number) xs → IsFirst v xs
later_rest v w [] e h n = tt
later_rest v w (x ∷ xs) e h n = (later_one v w x e h.0 n.0, later_rest v w xs e h.1 n.1)

strict_all : (v w : Version) (ws : List Version) → byte_order v.key w.key ≡ Less → AllByRecursion (λ x. entry_order w x ≡ Less) ws → IsFirst v (w ∷ ws)
strict_all v w ws less h = (key_less v w less, all_map (λ x k. key_less v x (below_other v.key w x less k)) ws h)

rest_behind : (w : Version) (ws : List Version) → AreOrdered (w ∷ ws) → AllByRecursion (λ x. entry_order w x ≡ Less) ws
rest_behind w ws ordered = recursion_from_All (λ x. entry_order w x ≡ Less) ws ordered.0

-- ---- the next source

abbrev Sooner : Version → ℕ → Version → ℕ → Type 0
Sooner v i w n = (n ≡ i) ⊎ (is_lt (ordering_then (byte_order v.key w.key) (nat_cmp i n)) ≡ true)

-- where sources stand from the place k on
abbrev Next : ℕ → ℕ → Version → List (List Version) → Type 0
Next k i v sources = (j : ℕ) (w : Version) → head_at (heads_of sources) j ≡ Some w → Sooner v i w (k + j)

next_tail : (k i : ℕ) (v : Version) (l : List Version) (ls : List (List Version)) → Next k i v (l ∷ ls) → Next (suc k) i v ls
next_tail k i v l ls next j w e = let same : k + suc j ≡ suc k + j = omega arith in subst (Sooner v i w) same (next (suc j) w e)

next_head : (k i : ℕ) (v w : Version) (ws : List Version) (ls : List (List Version)) → Next k i v ((w ∷ ws) ∷ ls) → Sooner v i w k
next_head k i v w ws ls next = let same : k + 0 ≡ k = omega arith in subst (Sooner v i w) same (next 0 w refl)

-- a newer source has only greater keys
early : (k i : ℕ) (v : Version) (l : List Version) (ls : List (List Version)) → k < i → Next k i v (l ∷ ls) → AreOrdered l → IsFirst v l
early k i v [] ls lt next ordered = tt
early k i v (w ∷ ws) ls lt next ordered = strict_all v w ws (strict (byte_order v.key w.key) refl (next_head k i v w ws ls next)) (rest_behind w ws ordered)
  where
    strict : (r : Ordering) → byte_order v.key w.key ≡ r → (k ≡ i) ⊎ (is_lt (ordering_then r (nat_cmp i k)) ≡ true) → byte_order v.key w.key ≡ Less
    strict r e (inl same) = absurd (omega (arith, same, lt))
    strict Less e (inr h) = e
    strict Equal e (inr h) = absurd (let below : i < k = ranked i k Less (sym (is_lt_Less (nat_cmp i k) h)) in omega (arith, below, lt))
    strict Greater e (inr h) = absurd (no (sym h))

-- an older source has no lesser key, and of the same key lesser numbers
late : (k i : ℕ) (v : Version) (l : List Version) (ls : List (List Version)) → i < k → Next k i v (l ∷ ls) → AreOrdered l → AllByRecursion (λ x. v.key ≡ x.key → x.number < v.number) l → IsFirst v l
late k i v [] ls lt next ordered n = tt
late k i v (w ∷ ws) ls lt next ordered n = by (byte_order v.key w.key) refl (next_head k i v w ws ls next)
  where
    by : (r : Ordering) → byte_order v.key w.key ≡ r → (k ≡ i) ⊎ (is_lt (ordering_then r (nat_cmp i k)) ≡ true) → IsFirst v (w ∷ ws)
    by r e (inl same) = absurd (omega (arith, same, lt))
    by Less e (inr h) = strict_all v w ws e (rest_behind w ws ordered)
    by Equal e (inr h) = let same = same_keys v.key w.key e in (tied_older v w same (n.0 same), later_rest v w ws same (rest_behind w ws ordered) n.1)
    by Greater e (inr h) = absurd (no (sym h))

all_late : (k i : ℕ) (v : Version) (ls : List (List Version)) → i < k → Next k i v ls → AllByRecursion AreOrdered ls → AllByRecursion (λ l. AllByRecursion (λ x. v.key ≡ x.key → x.number < v.number) l) ls → IsFirst v (joined ls)
all_late k i v [] lt next ordered n = tt
all_late k i v (l ∷ ls) lt next ordered n =
    all_append (λ x. entry_order v x ≡ Less) l (joined ls) (late k i v l ls lt next ordered.0 n.0) (all_late (suc k) i v ls (omega (arith, lt)) (next_tail k i v l ls next) ordered.1 n.1)

all_replaced : {X : Type 0} (P : X → Type 0) (xs : List X) (p : ℕ) (x y : X) → slice_get xs p ≡ Some x → (P x → P y) → AllByRecursion P xs → AllByRecursion P (set xs p y)
all_replaced P [] p x y is f h = tt
all_replaced P (z ∷ xs) zero x y is f h = (f (subst P (unsome z x is) h.0), h.1)
all_replaced P (z ∷ xs) (suc p) x y is f h = (h.0, all_replaced P xs p x y is f h.1)

splits : (ls : List (List Version)) (k p i : ℕ) (v : Version) (rest : List Version) → i ≡ k + p → AreInOrder ls → slice_get ls p ≡ Some (v ∷ rest) → Next k i v ls → Splits ls p v rest
splits [] k p i v rest e order is next = absurd (none_some (v ∷ rest) is)
splits (l ∷ ls) k zero i v rest e order is next =
    subst (λ (l : List Version). AreInOrder (l ∷ ls) → Splits (l ∷ ls) 0 v rest) (sym (unsome l (v ∷ rest) is))
    (λ order. record {
      newer = [];
      older = rest ++ joined ls;
      whole = refl;
      left = refl;
      first = all_append (λ x. entry_order v x ≡ Less) rest (joined ls) (rest_behind v rest order.entries.0)
          (all_late (suc k) i v ls (omega (arith, e)) (next_tail k i v l ls next) order.entries.1 (all_map (λ m (h : IsNewerPlace (v ∷ rest) m). h.0) ls order.versions.0));
      in_order = record { entries = (order.entries.0.1, order.entries.1); versions = (all_map (λ m (h : IsNewerPlace (v ∷ rest) m). h.1) ls order.versions.0, order.versions.1) };
    }) order
splits (l ∷ ls) k (suc p) i v rest e order is next =
    let later = splits ls (suc k) p i v rest (omega (arith, e)) (record { entries = order.entries.1; versions = order.versions.1 }) is (next_tail k i v l ls next) in
    record {
      newer = l ++ later.newer;
      older = later.older;
      whole = ap (λ (t : List Version). l ++ t) later.whole ∙ sym (append_assoc l later.newer (v ∷ later.older));
      left = ap (λ (t : List Version). l ++ t) later.left ∙ sym (append_assoc l later.newer later.older);
      first = subst (IsFirst v) (sym (append_assoc l later.newer later.older))
          (all_append (λ x. entry_order v x ≡ Less) l (later.newer ++ later.older) (early k i v l ls (omega (arith, e)) next order.entries.0) later.first);
      in_order = record {
        entries = (order.entries.0, later.in_order.entries);
        versions = (all_replaced (IsNewerPlace l) ls p (v ∷ rest) rest is (λ h. all_map (λ u k. k.1) l h) order.versions.0, later.in_order.versions);
      };
    }

head_of : (ls : List (List Version)) (i : ℕ) (l : List Version) → slice_get ls i ≡ Some l → head_at (heads_of ls) i ≡ slice_get l 0
head_of [] i l is = absurd (none_some l is)
head_of (m ∷ ls) zero l is = ap (λ (x : List Version). slice_get x 0) (unsome m l is)
head_of (m ∷ ls) (suc i) l is = head_of ls i l is

pub next_law : (sources : List (List Version)) (i : ℕ) (v : Version) (rest : List Version) → AreInOrder sources → slice_get sources i ≡ Some (v ∷ rest) → IsNext (heads_of sources) i → Splits sources i v rest
next_law sources i v rest order is next = splits sources 0 i i v rest (omega arith) order is (λ j w e. let same : 0 + j ≡ j = omega arith in subst (Sooner v i w) (sym same) (
    ⊎_elim (λ (same : j ≡ i). inl same)
    (λ (before : comes_before (heads_of sources) i j ≡ true). inr (sym (ap (λ (o : Option Version). is_sooner o i (Some w) j) (head_of sources i (v ∷ rest) is)) ∙ sym (ap (λ (o : Option Version). is_sooner (head_at (heads_of sources) i) i o j) e) ∙ before))
    (next.before j w e)))

-- ---- what is left from a key on

module _ (n : ℕ) (from : Bytes) where
  part : (P : Version → Type 0) (source place : List Version) → IsLeftOf n from source place → AllByRecursion P place → AllByRecursion P source
  part P source place (inl e) h = subst (AllByRecursion P) (sym e) (all_filter P (λ v. is_le (byte_order from v.key)) place h)
  part P source place (inr e) h =
      subst (AllByRecursion P) (sym e) (all_filter P (λ v. is_le (byte_order from v.key)) (newest_each n place) (all_filter P (λ v. is_version v (newest v.key n place)) place h))

  each_ordered : (place : List Version) → AreOrdered place → AreOrdered (newest_each n place)
  each_ordered place ordered = ordered_tested (newest_each n place) (is_in_order-filter (λ v. is_version v (newest v.key n place)) place (tested place ordered))

  from_ordered : (place : List Version) → AreOrdered place → AreOrdered (from_key from place)
  from_ordered place ordered = ordered_tested (from_key from place) (is_in_order-filter (λ v. is_le (byte_order from v.key)) place (tested place ordered))

  part_ordered : (source place : List Version) → IsLeftOf n from source place → AreOrdered place → AreOrdered source
  part_ordered source place (inl e) h = subst AreOrdered (sym e) (from_ordered place h)
  part_ordered source place (inr e) h = subst AreOrdered (sym e) (from_ordered (newest_each n place) (each_ordered place h))

  parts_newer : (source place : List Version) (sources places : List (List Version)) → IsLeftOf n from source place → AreLeftOf n from sources places → AllByRecursion (IsNewerPlace place) places → AllByRecursion (IsNewerPlace source) sources
  parts_newer source place [] [] a b h = tt
  parts_newer source place [] (q ∷ places) a b h = absurd b
  parts_newer source place (s ∷ sources) [] a b h = absurd b
  parts_newer source place (s ∷ sources) (q ∷ places) a b h = (
    part (λ v. AllByRecursion (λ w. v.key ≡ w.key → w.number < v.number) s) source place a (all_map (λ v k. part (λ w. v.key ≡ w.key → w.number < v.number) s q b.0 k) place h.0),
    parts_newer source place sources places a b.1 h.1,
  )

  parts_order : (sources places : List (List Version)) → AreLeftOf n from sources places → AllByRecursion AreOrdered places → IsVersionOrder places → AllByRecursion AreOrdered sources × IsVersionOrder sources
  parts_order [] [] a ordered order = (tt, tt)
  parts_order [] (q ∷ places) a ordered order = absurd a
  parts_order (s ∷ sources) [] a ordered order = absurd a
  parts_order (s ∷ sources) (q ∷ places) a ordered order =
      let later = parts_order sources places a.1 ordered.1 order.1 in
      ((part_ordered s q a.0 ordered.0, later.0), (parts_newer s q sources places a.0 a.1 order.0, later.1))

  pub parts_in_order : (places sources : List (List Version)) → AreInOrder places → AreLeftOf n from sources places → AreInOrder sources
  parts_in_order places sources order a = let both = parts_order sources places a order.entries order.versions in record { entries = both.0; versions = both.1 }

  -- ---- the newest of what is left

  newest_of_each : (q : Bytes) (place : List Version) → AreOrdered place → newest q n (newest_each n place) ≡ newest q n place
  newest_of_each q place ordered =
      newest-first q n (newest_each n place) (tested (newest_each n place) (each_ordered place ordered))
      ∙ first-filter (λ v. is_version v (newest v.key n place)) q n place (λ v found.
      let same : q ≡ v.key = first_key q n place v found in
      let is : newest v.key n place ≡ Some v = subst (λ (k : Bytes). newest k n place ≡ Some v) same (newest-first q n place (tested place ordered) ∙ found) in
      ap (is_version v) is ∙ eq-eqb v.number v.number refl)
      ∙ sym (newest-first q n place (tested place ordered))

  none_before : (q : Bytes) (place : List Version) → is_le (byte_order from q) ≡ false → newest q n (from_key from place) ≡ None
  none_before q [] low = refl
  none_before q (v ∷ place) low = by (none_before q place low) (is_le (byte_order from v.key)) refl (is_same_key q v.key) refl
    where
      by : newest q n (from_key from place) ≡ None → (b : Bool) → is_le (byte_order from v.key) ≡ b → (c : Bool) → is_same_key q v.key ≡ c → newest q n (cond b (v ∷ from_key from place) (from_key from place)) ≡ None
      by later false e c f = later
      by later true e true f = absurd (no (sym e ∙ ap (λ (k : Bytes). is_le (byte_order from k)) (sym (same_key q v.key f)) ∙ low))
      by later true e false f = ap (λ (c : Bool). cond (c && leb v.number n) (Some (newer_of v (newest q n (from_key from place)))) (newest q n (from_key from place))) f ∙ later

  newest_from : (q : Bytes) (place : List Version) (b : Bool) → is_le (byte_order from q) ≡ b → newest q n (from_key from place) ≡ cond b (newest q n place) None
  newest_from q place true e = newest-filter (λ k. is_le (byte_order from k)) q n place e
  newest_from q place false e = none_before q place e

  newest_part : (q : Bytes) (source place : List Version) (b : Bool) → is_le (byte_order from q) ≡ b → IsLeftOf n from source place → AreOrdered place → newest q n source ≡ cond b (newest q n place) None
  newest_part q source place b e (inl is) ordered = ap (newest q n) is ∙ newest_from q place b e
  newest_part q source place b e (inr is) ordered = ap (newest q n) is ∙ newest_from q (newest_each n place) b e ∙ ap (λ (o : Option Version). cond b o None) (newest_of_each q place ordered)

  either : (b : Bool) (x y : Option Version) → option_or (cond b x None) (cond b y None) ≡ cond b (option_or x y) None
  either true x y = refl
  either false x y = refl

  both_none : {X : Type 0} (b : Bool) → None ≡ cond {A = Option X} b None None
  both_none true = refl
  both_none false = refl

  newest_parts : (q : Bytes) (sources places : List (List Version)) (b : Bool) → is_le (byte_order from q) ≡ b → AreLeftOf n from sources places → AllByRecursion AreOrdered places → IsVersionOrder places → IsVersionOrder sources
      → newest q n (joined sources) ≡ cond b (newest q n (joined places)) None
  newest_parts q [] [] b e a ordered order left = both_none b
  newest_parts q [] (p ∷ places) b e a ordered order left = absurd a
  newest_parts q (s ∷ sources) [] b e a ordered order left = absurd a
  newest_parts q (s ∷ sources) (p ∷ places) b e a ordered order left =
      newest_place q n s sources left
      ∙ ap (λ (o : Option Version). option_or o (newest q n (joined sources))) (newest_part q s p b e a.0 ordered.0)
      ∙ ap (option_or (cond b (newest q n p) None)) (newest_parts q sources places b e a.1 ordered.1 order.1 left.1)
      ∙ either b (newest q n p) (newest q n (joined places))
      ∙ ap (λ (o : Option Version). cond b o None) (sym (newest_place q n p places order))

  -- ---- the page

  module _ (limit : ℕ) (to : Option Bytes) (places sources : List (List Version)) (order : AreInOrder places) (a : AreLeftOf n from sources places) where
    inside : Bytes → Bool
    inside q = is_le (byte_order from q) && is_before to q

    same_values : (q : Bytes) (b : Bool) → is_le (byte_order from q) ≡ b → cond (is_before to q) (value_at (joined sources) n q) None ≡ cond (b && is_before to q) (value_at (joined places) n q) None
    same_values q b e =
        ap (λ (o : Option Version). cond (is_before to q) (option_and_then (λ v. v.value) o) None) (newest_parts q sources places b e a order.entries order.versions (parts_in_order places sources order a).versions)
        ∙ by b (is_before to q)
      where
        by : (b c : Bool) → cond c (option_and_then (λ (v : Version). v.value) (cond b (newest q n (joined places)) None)) None ≡ cond (b && c) (value_at (joined places) n q) None
        by true c = refl
        by false true = refl
        by false false = refl

    pub same_page : page_with (gathering n to limit) (joined sources) ≡ page_of (map_of (joined places) n) from to limit
    unfolding inside
    same_page =
        let m = map_of (joined places) n in
        ap (first_page limit)
        (same_pairs (pairs_to_come (gathering n to limit) (joined sources)) (pairs_in m from to) (come_sorted (gathering n to limit) (joined sources)) (is_sorted-where_key byte_order inside (entries m) (entries_sorted m))
        (λ q. come_find (gathering n to limit) (joined sources) q
        ∙ same_values q (is_le (byte_order from q)) refl
        ∙ ap (λ (o : Option Bytes). cond (inside q) o None) (sym (sym (get-entries m q) ∙ get-map_of (joined places) n q))
        ∙ sym (find-where_key byte_order inside q (λ x e. ap inside (sym (same_keys q x e))) (entries m))))
