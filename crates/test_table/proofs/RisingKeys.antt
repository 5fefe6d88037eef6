-- Entries whose keys rise can be divided into tables.
use Rattle.std.proofs.Common.{◌≡◌, ℕ, suc, ◌+◌, ◌-◌, ◌≤◌, ◌<◌, Bool, true, false, cond, List, [], ◌∷◌, length, get_or, inl, inr, refl, sym, ap, ◌∙◌, arith}
use Rattle.std.specs.Prelude.{count_by}
use Rattle.std.specs.List.{AllByRecursion}
use Rattle.std.specs.declared.cmp.Ordering.{Ordering}
use Rattle.std.specs.declared.cmp.Ordering.TheVariants.{Less}
use Rattle.std.specs.Ordering.{nat_cmp, is_eq, is_lt, ordering_then}
use Rattle.std.proofs.lemmas.Cmp.{nat_list_cmp_total}
use Rattle.std.proofs.lemmas.Bool.{cases_lt}
use Rattle.std.proofs.lemmas.List.{get_or_default}
use Rattle.std.proofs.lemmas.List.Sums.{sum_by-cons}
use Rattle.lsm_codec.specs.Keys.{Bytes, byte_order}
use Rattle.lsm_codec.specs.Versions.{Version, is_same_key}
use Rattle.lsm_codec.specs.Pairs.{Pairwise}
use Rattle.lsm_table.specs.Division.{IsInput}
use Rattle.lsm_codec.proofs.KeyOrder.{same_key, is_lt_Less}
use Rattle.lsm_table.proofs.Orders.{Before}
use Rattle.std.proofs.lemmas.List.Elements.{All-from_recursion, recursion_from_All}

abbrev pub KeyBefore : Version → Version → Type 0
KeyBefore v w = byte_order v.key w.key ≡ Less

abbrev pub DoKeysRise : List Version → Type 0
DoKeysRise [] = Unit {0}
DoKeysRise (v ∷ []) = Unit {0}
DoKeysRise (v ∷ w ∷ rest) = KeyBefore v w × DoKeysRise (w ∷ rest)

before_all : (v w : Version) (rest : List Version) → KeyBefore v w → AllByRecursion (KeyBefore w) rest → AllByRecursion (KeyBefore v) rest
before_all v w [] h all = tt
before_all v w (x ∷ rest) h all = (nat_list_cmp_total.trans v.key w.key x.key h all.0, before_all v w rest h all.1)

pairs : (entries : List Version) → DoKeysRise entries → Pairwise KeyBefore entries
pairs [] rise = tt
pairs (v ∷ []) rise = (All-from_recursion (KeyBefore v) [] tt, tt)
pairs (v ∷ w ∷ rest) rise =
    let others = pairs (w ∷ rest) rise.1 in
    (All-from_recursion (KeyBefore v) (w ∷ rest) (rise.0, before_all v w rest rise.0 (recursion_from_All (KeyBefore w) rest others.0)), others)

ordered : (entries : List Version) → Pairwise KeyBefore entries → Pairwise Before entries
ordered [] all = tt
ordered (v ∷ rest) all = (λ k d lt. ap (λ (o : Ordering). ordering_then o (nat_cmp (get_or rest k d).number v.number)) (all.0 k d lt), ordered rest all.1)

counted : (key : Bytes) (v : Version) (rest : List Version) → count_by (λ w. is_same_key key w.key) (v ∷ rest) ≡ cond (is_same_key key v.key) 1 0 + count_by (λ w. is_same_key key w.key) rest
counted key v rest = sum_by-cons (λ (w : Version). cond (is_same_key key w.key) 1 0) v rest

none_later : (v : Version) (rest : List Version) → AllByRecursion (KeyBefore v) rest → count_by (λ w. is_same_key v.key w.key) rest ≡ 0
none_later v [] all = refl
none_later v (w ∷ rest) all = let f : Ordering → ℕ = λ o. cond (is_eq o) 1 0 in omega (arith, counted v.key w rest, ap f all.0, none_later v rest all.1)

once : (key : Bytes) (entries : List Version) → Pairwise KeyBefore entries → count_by (λ w. is_same_key key w.key) entries ≤ 1
once key [] all = omega arith
once key (v ∷ rest) all = by (once key rest all.1) (is_same_key key v.key) refl
  where
    one : Bool → ℕ
    one b = cond b 1 0

    by : count_by (λ w. is_same_key key w.key) rest ≤ 1 → (b : Bool) → is_same_key key v.key ≡ b → count_by (λ w. is_same_key key w.key) (v ∷ rest) ≤ 1
    by few true e =
        let same : count_by (λ w. is_same_key key w.key) rest ≡ count_by (λ w. is_same_key v.key w.key) rest = ap (λ (k : Bytes). count_by (λ (w : Version). is_same_key k w.key) rest) (same_key key v.key e) in
        omega (arith, counted key v rest, ap one e, same, none_later v rest (recursion_from_All (KeyBefore v) rest all.0))
    by few false e = omega (arith, counted key v rest, ap one e, few)

-- each key among the first so many stands before the next
abbrev pub RiseUpTo : List Version → ℕ → Type 0
RiseUpTo entries i = (k : ℕ) (d : Version) → suc k < i → suc k < length entries → KeyBefore (get_or entries k d) (get_or entries (suc k) d)

pub rises_more : (entries : List Version) (i : ℕ) (v w : Version) (a b : Bytes) → 1 ≤ i → i < length entries → v ≡ get_or entries (i - 1) v → w ≡ get_or entries i w → a ≡ v.key → b ≡ w.key → is_lt (byte_order a b) ≡ true → RiseUpTo entries i → RiseUpTo entries (i + 1)
rises_more entries i v w a b low lt is_v is_w is_a is_b less so_far = λ k d below inside. elim (cases_lt (suc k) i) [
  | inl early ↦ so_far k d early inside
  | inr le ↦
      let here : suc k ≡ i = omega arith in
      let first : get_or entries k d ≡ v = get_or_default entries k d v (omega arith) ∙ ap (λ (n : ℕ). get_or entries n v) (before k here) ∙ sym is_v in
      let second : get_or entries (suc k) d ≡ w = get_or_default entries (suc k) d w inside ∙ ap (λ (n : ℕ). get_or entries n w) here ∙ sym is_w in
      let found : byte_order v.key w.key ≡ Less = ap (λ (x : Bytes). byte_order x w.key) (sym is_a) ∙ ap (byte_order a) (sym is_b) ∙ is_lt_Less (byte_order a b) less in
      ap (λ (x : Version). byte_order x.key (get_or entries (suc k) d).key) first ∙ ap (λ (x : Version). byte_order v.key x.key) second ∙ found
]
  where
    before : (k : ℕ) → suc k ≡ i → k ≡ i - 1
    before k here = omega arith

rise_all : (entries : List Version) → RiseUpTo entries (length entries) → DoKeysRise entries
rise_all [] rise = tt
rise_all (v ∷ []) rise = tt
rise_all (v ∷ w ∷ rest) rise = (rise 0 v (omega arith) (omega arith), rise_all (w ∷ rest) (λ k d below inside. rise (suc k) d (omega arith) (omega arith)))

pub rising_input : (entries : List Version) (i : ℕ) → length entries ≤ i → RiseUpTo entries i → IsInput entries
rising_input entries i le rise =
    let all = pairs entries (rise_all entries (λ k d below inside. rise k d (omega arith) inside)) in
    record { ordered = ordered entries all; few = λ key. omega (arith, once key entries all) }
