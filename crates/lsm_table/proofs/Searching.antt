-- A binary search over rising edges finds the place.
use Rattle.std.proofs.Common.{◌≡◌, ℕ, zero, suc, ◌+◌, ◌<◌, ◌≤◌, Bool, true, false, cond, List, [], ◌∷◌, length, Some, None, refl, ap, sym, ◌∙◌, arith}
use Rattle.std.specs.List.Sorted.{IsPartitionPoint, IsPartitionedBy}
use Rattle.std.specs.Ordering.{nat_cmp, is_lt, ordering_then}
use Rattle.std.specs.declared.cmp.Ordering.{Ordering}
use Rattle.std.specs.declared.cmp.Ordering.TheVariants.{Less, Equal, Greater}
use Rattle.std.proofs.lemmas.Cmp.{nat_cmp_total, tied_itself}
use Rattle.std.proofs.lemmas.Bool.{and_parts}
use Rattle.lsm_codec.specs.Keys.{Bytes, byte_order}
use Rattle.lsm_codec.specs.Versions.{Version}
use Rattle.lsm_codec.specs.Indexes.{Edge}
use Rattle.lsm_codec.proofs.KeyOrder.{is_lt_Less}
use Rattle.lsm_table.specs.BlockEdges.{is_edge_before, are_rising}
use Rattle.lsm_table.specs.Places.{stands_before, place_from, ends_before, blocks_before}
use Rattle.lsm_table.proofs.Orders.{before_along}

abbrev at_edge : Edge → Version
at_edge e = record { key = e.key; number = e.number; value = None }

abbrev asked : Bytes → ℕ → Version
asked key at = record { key = key; number = at; value = None }

stands_along : (key : Bytes) (at : ℕ) (d e : Edge) → is_edge_before d e ≡ true → stands_before key at e ≡ true → stands_before key at d ≡ true
stands_along key at d e one two = ap is_lt (before_along (at_edge d) (at_edge e) (asked key at) (is_lt_Less _ one) (is_lt_Less _ two))

-- no edge before a place comes after one that isn't
pub parted : (key : Bytes) (at : ℕ) (edges : List Edge) → are_rising edges ≡ true → IsPartitionedBy (stands_before key at) edges
parted key at [] rising i j d le lt h = absurd (omega arith)
parted key at (e ∷ []) rising i (suc j) d le lt h = absurd (omega arith)
parted key at (e ∷ []) rising (suc i) zero d le lt h = absurd (omega arith)
parted key at (e ∷ []) rising zero zero d le lt h = h
parted key at (e ∷ f ∷ edges) rising (suc i) zero d le lt h = absurd (omega arith)
parted key at (e ∷ f ∷ edges) rising zero zero d le lt h = h
parted key at (e ∷ f ∷ edges) rising (suc i) (suc j) d le lt h =
    parted key at (f ∷ edges) (and_parts (is_edge_before e f) (are_rising (f ∷ edges)) rising).1 i j d (omega arith) (omega arith) h
parted key at (e ∷ f ∷ edges) rising zero (suc j) d le lt h =
    let p = and_parts (is_edge_before e f) (are_rising (f ∷ edges)) rising in
    stands_along key at e f p.0 (parted key at (f ∷ edges) p.1 zero j d (omega arith) (omega arith) h)

abbrev pub Parts : Bytes → ℕ → List Edge → ℕ → Type 0
Parts key at edges i = IsPartitionPoint (λ y. stands_before key at y ≡ true) (λ y. stands_before key at y ≡ false) edges i

-- the search ended before the end
found_from : (n : ℕ) (key : Bytes) (at : ℕ) (edges : List Edge) (i : ℕ) → i < length edges → Parts key at edges i → place_from n key at edges ≡ Some (n + i)
unfolding place_from
found_from n key at [] i lt h = absurd (omega arith)
found_from n key at (e ∷ edges) zero lt h =
    let same : n ≡ n + 0 = omega arith in
    ap (λ (b : Bool). cond b (place_from (n + 1) key at edges) (Some n)) (h.1 0 e (omega arith) (omega arith)) ∙ ap (λ (k : ℕ). Some k) same
found_from n key at (e ∷ edges) (suc i) lt h =
    let same : (n + 1) + i ≡ n + suc i = omega arith in
    ap (λ (b : Bool). cond b (place_from (n + 1) key at edges) (Some n)) (h.0 0 e (omega arith) (omega arith))
    ∙ found_from (n + 1) key at edges i (omega arith) (λ k d a b. h.0 (suc k) d (omega arith) (omega arith), λ k d a b. h.1 (suc k) d (omega arith) (omega arith))
    ∙ ap (λ (k : ℕ). Some k) same

-- it ended at the end
not_found_from : (n : ℕ) (key : Bytes) (at : ℕ) (edges : List Edge) (i : ℕ) → length edges ≤ i → Parts key at edges i → place_from n key at edges ≡ None
unfolding place_from
not_found_from n key at [] i le h = refl
not_found_from n key at (e ∷ edges) zero le h = absurd (omega arith)
not_found_from n key at (e ∷ edges) (suc i) le h =
    ap (λ (b : Bool). cond b (place_from (n + 1) key at edges) (Some n)) (h.0 0 e (omega arith) (omega arith))
    ∙ not_found_from (n + 1) key at edges i (omega arith) (λ k d a b. h.0 (suc k) d (omega arith) (omega arith), λ k d a b. h.1 (suc k) d (omega arith) (omega arith))

pub found : (key : Bytes) (at : ℕ) (edges : List Edge) (i : ℕ) → i < length edges → Parts key at edges i → place_from 0 key at edges ≡ Some i
found key at edges i lt h =
    let same : 0 + i ≡ i = omega arith in
    found_from 0 key at edges i lt h ∙ ap (λ (k : ℕ). Some k) same

pub not_found : (key : Bytes) (at : ℕ) (edges : List Edge) (i : ℕ) → length edges ≤ i → Parts key at edges i → place_from 0 key at edges ≡ None
not_found key at edges i le h = not_found_from 0 key at edges i le h

-- ---- blocks that end before a key

pub less_by_first : (o p : Ordering) → is_lt o ≡ true → is_lt (ordering_then o p) ≡ true
less_by_first Less p h = refl
less_by_first Equal p h = absurd cc
less_by_first Greater p h = absurd cc

less_first_only : (o p : Ordering) → p ≡ Equal → is_lt (ordering_then o p) ≡ true → is_lt o ≡ true
less_first_only Less p tied h = refl
less_first_only Equal p tied h = absurd (let clash : true ≡ false = sym h ∙ ap is_lt tied in cc)
less_first_only Greater p tied h = absurd cc

ends_along : (key : Bytes) (d e : Edge) → is_edge_before d e ≡ true → ends_before key e ≡ true → ends_before key d ≡ true
ends_along key d e one two =
    less_first_only (byte_order d.key key) (nat_cmp d.number d.number) (tied_itself nat_cmp_total d.number) (stands_along key d.number d e one (less_by_first (byte_order e.key key) (nat_cmp d.number e.number) two))

-- no block that ends before a key comes after one that doesn't
pub ends_parted : (key : Bytes) (edges : List Edge) → are_rising edges ≡ true → IsPartitionedBy (ends_before key) edges
ends_parted key [] rising i j d le lt h = absurd (omega arith)
ends_parted key (e ∷ []) rising i (suc j) d le lt h = absurd (omega arith)
ends_parted key (e ∷ []) rising (suc i) zero d le lt h = absurd (omega arith)
ends_parted key (e ∷ []) rising zero zero d le lt h = h
ends_parted key (e ∷ f ∷ edges) rising (suc i) zero d le lt h = absurd (omega arith)
ends_parted key (e ∷ f ∷ edges) rising zero zero d le lt h = h
ends_parted key (e ∷ f ∷ edges) rising (suc i) (suc j) d le lt h =
    ends_parted key (f ∷ edges) (and_parts (is_edge_before e f) (are_rising (f ∷ edges)) rising).1 i j d (omega arith) (omega arith) h
ends_parted key (e ∷ f ∷ edges) rising zero (suc j) d le lt h =
    let p = and_parts (is_edge_before e f) (are_rising (f ∷ edges)) rising in
    ends_along key e f p.0 (ends_parted key (f ∷ edges) p.1 zero j d (omega arith) (omega arith) h)

-- the search ends where they do
pub ends_counted : (key : Bytes) (edges : List Edge) (i : ℕ) → i ≤ length edges → IsPartitionPoint (λ y. ends_before key y ≡ true) (λ y. ends_before key y ≡ false) edges i → i ≡ blocks_before key edges
ends_counted key [] zero le h = refl
ends_counted key [] (suc i) le h = absurd (omega arith)
ends_counted key (e ∷ edges) zero le h = sym (ap (λ (b : Bool). cond b (suc (blocks_before key edges)) 0) (h.1 0 e (omega arith) (omega arith)))
ends_counted key (e ∷ edges) (suc i) le h =
    ap suc (ends_counted key edges i (omega arith) (λ k d a b. h.0 (suc k) d (omega arith) (omega arith), λ k d a b. h.1 (suc k) d (omega arith) (omega arith)))
    ∙ sym (ap (λ (b : Bool). cond b (suc (blocks_before key edges)) 0) (h.0 0 e (omega arith) (omega arith)))
