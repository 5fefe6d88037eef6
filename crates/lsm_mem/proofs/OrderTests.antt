-- A test of the order of entries, for recursions.
use Rattle.std.proofs.Common.{◌≡◌, Bool, true, ◌&&◌, List, [], ◌∷◌, refl, ap}
use Rattle.std.proofs.lemmas.Bool.{and_parts, and_from}
use Rattle.std.proofs.lemmas.Cmp.{nat_list_cmp_total, nat_cmp_total, then_total, on_total, back_total}
use Rattle.std.proofs.lemmas.List.Elements.{All-nil, All-cons, All-head, All-weaker}
use Rattle.std.specs.Cmp.{IsTotalOrder}
use Rattle.std.specs.Prelude.{All}
use Rattle.std.specs.declared.cmp.Ordering.TheVariants.{Less}
use Rattle.std.specs.Ordering.{is_lt}
use Rattle.lsm_codec.specs.Versions.{Version, entry_order, AreOrdered}
use Rattle.lsm_codec.proofs.KeyOrder.{is_lt_Less}

-- whether a version is before the first of these
abbrev pub is_before : Version → List Version → Bool
is_before v [] = true
is_before v (w ∷ rest) = is_lt (entry_order v w)

-- whether versions are in the order of entries
abbrev pub is_in_order : List Version → Bool
is_in_order [] = true
is_in_order (v ∷ rest) = is_before v rest && is_in_order rest

pub entry_order_total : IsTotalOrder entry_order
entry_order_total = then_total (on_total (λ (v : Version). v.key) nat_list_cmp_total) (on_total (λ (v : Version). v.number) (back_total nat_cmp_total))

pub before_both : (x y z : Version) → entry_order x y ≡ Less → entry_order y z ≡ Less → entry_order x z ≡ Less
before_both x y z = entry_order_total.trans x y z

-- in order, with one more first
pub in_order_cons : (v : Version) (rest : List Version) → is_in_order (v ∷ rest) ≡ true → (is_before v rest ≡ true) × (is_in_order rest ≡ true)
in_order_cons v rest h = and_parts (is_before v rest) (is_in_order rest) h

pub cons_in_order : (v : Version) (rest : List Version) → is_before v rest ≡ true → is_in_order rest ≡ true → is_in_order (v ∷ rest) ≡ true
cons_in_order v rest h k = and_from (is_before v rest) (is_in_order rest) h k

before_first : (v : Version) (rest : List Version) → All (λ w. entry_order v w ≡ Less) rest → is_before v rest ≡ true
before_first v [] all = refl
before_first v (w ∷ rest) all = ap is_lt (All-head (λ u. entry_order v u ≡ Less) w rest all)

-- the test of what is ordered
pub tested : (versions : List Version) → AreOrdered versions → is_in_order versions ≡ true
tested [] ordered = refl
tested (v ∷ rest) ordered = cons_in_order v rest (before_first v rest ordered.0) (tested rest ordered.1)

before_all : (v : Version) (rest : List Version) → is_before v rest ≡ true → is_in_order rest ≡ true → All (λ w. entry_order v w ≡ Less) rest
before_all v [] before order = All-nil (λ w. entry_order v w ≡ Less)
before_all v (w ∷ rest) before order =
    let less : entry_order v w ≡ Less = is_lt_Less _ before in
    let parts = in_order_cons w rest order in
    All-cons (λ u. entry_order v u ≡ Less) w rest less
    (All-weaker (λ u. entry_order w u ≡ Less) (λ u. entry_order v u ≡ Less) (λ u e. before_both v w u less e) rest (before_all w rest parts.0 parts.1))

-- what passes the test is ordered
pub ordered_tested : (versions : List Version) → is_in_order versions ≡ true → AreOrdered versions
ordered_tested [] order = _
ordered_tested (v ∷ rest) order =
    let parts = in_order_cons v rest order in
    (before_all v rest parts.0 parts.1, ordered_tested rest parts.1)
