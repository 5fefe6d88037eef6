-- The parts between ascending borders, one after another, are the whole.
use Rattle.std.proofs.Common.{◌≡◌, ℕ, suc, zero, ◌+◌, add-one, ◌<◌, ◌≤◌, Bool, true, false, cond, not, ◌&&◌, List, [], ◌∷◌, ◌++◌, length, filter, Option, Some, None, refl, ap, sym, ◌∙◌, arith}
use Rattle.std.specs.Prelude.{slice_get, is_some}
use Rattle.std.proofs.lemmas.Bool.{and_parts}
use Rattle.std.specs.declared.cmp.Ordering.{Ordering}
use Rattle.std.specs.declared.cmp.Ordering.TheVariants.{Less, Equal, Greater}
use Rattle.std.specs.Ordering.{is_lt, is_le, ordering_reverse}
use Rattle.std.proofs.lemmas.Cmp.{nat_list_cmp_total}
use Rattle.lsm_codec.specs.Keys.{Bytes, byte_order}
use Rattle.lsm_codec.specs.Versions.{Version}
use Rattle.lsm_codec.proofs.KeyOrder.{is_lt_Less}
use Rattle.lsm_mem.proofs.OrderTests.{is_in_order, in_order_cons}
use Rattle.lsm_merge.specs.Ranges.{is_until, within}
use Rattle.lsm_merge.specs.Parts.{is_before_first, are_ascending, end_of, part_of}
use Rattle.lsm_mem.proofs.FirstLaws.{first_less}
use Rattle.lsm_merge.proofs.RangeLaws.{key_order, until_down}

-- a key is from a border on exactly where it isn't before it
pub from_or_until : (border key : Bytes) → is_le (byte_order border key) ≡ not (is_lt (byte_order key border))
from_or_until border key = ap is_le (nat_list_cmp_total.antisymm border key) ∙ turned (byte_order key border)
  where
    turned : (o : Ordering) → is_le (ordering_reverse o) ≡ not (is_lt o)
    turned Less = refl
    turned Equal = refl
    turned Greater = refl

border_cases : (v : Version) (below within_rest until_rest : List Version) (u f t : Bool) → f ≡ not u → (u ≡ true → t ≡ true) → (u ≡ true → below ++ within_rest ≡ until_rest) → (u ≡ false → (below ≡ []) × (within_rest ≡ until_rest))
    → cond u (v ∷ below) below ++ cond (f && t) (v ∷ within_rest) within_rest ≡ cond t (v ∷ until_rest) until_rest
border_cases v a b c true true t e h p q = cc
border_cases v a b c true false true e h p q = ap (λ xs. v ∷ xs) (p refl)
border_cases v a b c true false false e h p q = let k : false ≡ true = h refl in cc
border_cases v a b c false true t e h p q = let (none, same) = q refl in ap (λ xs. xs ++ cond t (v ∷ b) b) none ∙ ap (λ xs. cond t (v ∷ xs) xs) same
border_cases v a b c false false t e h p q = cc

not_later : (a b : Bool) → (b ≡ true → a ≡ true) → a ≡ false → b ≡ false
not_later true b h e = cc
not_later false true h e = sym (h refl)
not_later false false h e = refl

-- after a version that isn't before a border none is
none_before : (border : Bytes) (to : Option Bytes) (v : Version) (rest : List Version) → is_in_order (v ∷ rest) ≡ true → is_lt (byte_order v.key border) ≡ false
    → (filter (λ w. is_until (Some border) w.key) rest ≡ []) × (within (Some border) to rest ≡ filter (λ w. is_until to w.key) rest)
none_before border to v [] h e = (refl, refl)
none_before border to v (w ∷ rest) h e =
    let not_before : is_lt (byte_order w.key border) ≡ false =
    not_later (is_lt (byte_order v.key border)) (is_lt (byte_order w.key border)) (until_down (Some border) v.key w.key (key_order v w (first_less v w rest h))) e in
    let (none, same) = none_before border to w rest (in_order_cons v (w ∷ rest) h).1 not_before in
    let from : is_le (byte_order border w.key) ≡ true = from_or_until border w.key ∙ ap not not_before in (
      ap (λ b. cond b (w ∷ filter (λ x. is_until (Some border) x.key) rest) (filter (λ x. is_until (Some border) x.key) rest)) not_before ∙ none,
      ap (λ b. cond (b && is_until to w.key) (w ∷ within (Some border) to rest) (within (Some border) to rest)) from ∙ ap (λ xs. cond (is_until to w.key) (w ∷ xs) xs) same,
    )

-- what is before a border, and what is from it on
pub split_at_border : (border : Bytes) (to : Option Bytes) (versions : List Version) → is_in_order versions ≡ true → ((key : Bytes) → is_until (Some border) key ≡ true → is_until to key ≡ true)
    → filter (λ w. is_until (Some border) w.key) versions ++ within (Some border) to versions ≡ filter (λ w. is_until to w.key) versions
split_at_border border to [] h below = refl
split_at_border border to (v ∷ rest) h below =
    border_cases v _ _ _ (is_lt (byte_order v.key border)) (is_le (byte_order border v.key)) (is_until to v.key) (from_or_until border v.key) (below v.key)
    (λ e. split_at_border border to rest (in_order_cons v rest h).1 below)
    (none_before border to v rest h)

-- the versions before the end of a part
abbrev pub covered : List Bytes → List Version → ℕ → List Version
covered borders versions zero = []
covered borders versions (suc i) = filter (λ v. is_until (end_of borders i) v.key) versions

below_next : (borders : List Bytes) (i : ℕ) → are_ascending borders ≡ true → i < length borders → (key : Bytes) → is_until (slice_get borders i) key ≡ true → is_until (slice_get borders (suc i)) key ≡ true
below_next [] i h l key e = absurd (omega arith)
below_next (b ∷ []) zero h l key e = refl
below_next (b ∷ c ∷ rest) zero h l key e = nat_lt_trans (is_lt_Less _ e) (is_lt_Less _ (and_parts (is_lt (byte_order b c)) (are_ascending (c ∷ rest)) h).0)
  where
    nat_lt_trans : byte_order key b ≡ Less → byte_order b c ≡ Less → is_lt (byte_order key c) ≡ true
    nat_lt_trans p q = ap is_lt (nat_list_cmp_total.trans key b c p q)
below_next (b ∷ rest) (suc i) h l key e = below_next rest i (and_parts (is_before_first b rest) (are_ascending rest) h).1 (omega arith) key e

split_some : (borders : List Bytes) (versions : List Version) (i : ℕ) (o : Option Bytes) → slice_get borders i ≡ o → is_some o ≡ true → is_in_order versions ≡ true → ((key : Bytes) → is_until o key ≡ true → is_until (slice_get borders (suc i)) key ≡ true)
    → filter (λ v. is_until o v.key) versions ++ within o (slice_get borders (suc i)) versions ≡ filter (λ v. is_until (slice_get borders (suc i)) v.key) versions
split_some borders versions i None e s h below = let k : false ≡ true = s in cc
split_some borders versions i (Some b) e s h below = split_at_border b (slice_get borders (suc i)) versions h below

some_within : (borders : List Bytes) (i : ℕ) → i < length borders → is_some (slice_get borders i) ≡ true
some_within [] i h = absurd (omega arith)
some_within (b ∷ rest) zero h = refl
some_within (b ∷ rest) (suc i) h = some_within rest i (omega arith)

pub covered_more : (borders : List Bytes) (versions : List Version) (i : ℕ) → are_ascending borders ≡ true → is_in_order versions ≡ true → i ≤ length borders → covered borders versions i ++ part_of borders versions i ≡ covered borders versions (suc i)
covered_more borders versions zero h k l = refl
covered_more borders versions (suc i) h k l = split_some borders versions i (slice_get borders i) refl (some_within borders i (omega arith)) k (below_next borders i h (omega arith))

none_past : (borders : List Bytes) (i : ℕ) → length borders ≤ i → slice_get borders i ≡ None
none_past [] zero h = refl
none_past [] (suc i) h = refl
none_past (b ∷ rest) zero h = absurd (omega arith)
none_past (b ∷ rest) (suc i) h = none_past rest i (omega arith)

pub all_pass : (versions : List Version) → filter (λ v. true) versions ≡ versions
all_pass [] = refl
all_pass (v ∷ rest) = ap (λ xs. v ∷ xs) (all_pass rest)

pub covered_all : (borders : List Bytes) (versions : List Version) → covered borders versions (suc (length borders)) ≡ versions
covered_all borders versions = ap (λ o. filter (λ v. is_until o v.key) versions) (none_past borders (length borders) (omega arith)) ∙ all_pass versions

-- one part more
pub joined_more : (borders : List Bytes) (versions : List Version) (i n : ℕ) (before part after : List Version) → are_ascending borders ≡ true → is_in_order versions ≡ true → i ≤ length borders → n ≡ i + 1
    → before ≡ covered borders versions i → part ≡ part_of borders versions i → after ≡ before ++ part → after ≡ covered borders versions n
joined_more borders versions i n before part after h k l next so is all =
    all ∙ ap (λ (xs : List Version). xs ++ part) so ∙ ap (λ (xs : List Version). covered borders versions i ++ xs) is
    ∙ covered_more borders versions i h k l ∙ ap (covered borders versions) (sym (add-one i) ∙ sym next)

-- all parts
pub joined_all : (borders : List Bytes) (versions : List Version) (n : ℕ) (all : List Version) → n ≡ length borders + 1 → all ≡ covered borders versions n → all ≡ versions
joined_all borders versions n all whole so = so ∙ ap (covered borders versions) (whole ∙ add-one (length borders)) ∙ covered_all borders versions
