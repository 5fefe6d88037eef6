-- Ranges of versions in order.
use Rattle.std.proofs.Common.{◌≡◌, ℕ, suc, zero, ◌<◌, ◌≤◌, Bool, true, false, cond, not, ◌&&◌, ◌||◌, ltb, List, [], ◌∷◌, length, get_or, take, drop, filter, Option, Some, None, refl, ap, sym, ◌∙◌, arith}
use Rattle.std.specs.Prelude.{is_none, is_some}
use Rattle.std.specs.List.{list_any}
use Rattle.std.specs.List.Sorted.{IsPartitionedBy, IsPartitionPoint}
use Rattle.std.proofs.lemmas.Bool.{cond-true, cond-false, not-true, not-false, false≢true}
use Rattle.std.specs.declared.cmp.Ordering.{Ordering}
use Rattle.std.specs.declared.cmp.Ordering.TheVariants.{Less, Equal, Greater}
use Rattle.std.specs.Ordering.{is_lt, is_le, nat_cmp}
use Rattle.std.specs.FinMap.Entries.{by_order}
use Rattle.std.proofs.lemmas.Cmp.{nat_list_cmp_total, alike_right, tied_itself}
use Rattle.lsm_codec.proofs.KeyOrder.{is_lt_Less, same_key}
use Rattle.lsm_mem.proofs.Batches.{tied_key}
use Rattle.lsm_merge.proofs.KeptLaws.{later, any_agree}
use Rattle.lsm_codec.specs.Keys.{Bytes, byte_order}
use Rattle.lsm_codec.specs.Versions.{Version, is_same_key, entry_order}
use Rattle.lsm_mem.specs.EntryOrder.{placed}
use Rattle.lsm_mem.specs.Ranges.{is_version}
use Rattle.lsm_merge.specs.Keeping.{in_order, is_newest_at_a_cut, kept_at, is_older_put, deletes_nothing, settled, keep}
use Rattle.lsm_mem.proofs.OrderTests.{is_in_order, in_order_cons}
use Rattle.lsm_merge.specs.Ranges.{is_from, is_until}
use Rattle.lsm_merge.proofs.Placing.{placed_first, by_equal, by_greater, is_in_order-placed}
use Rattle.lsm_mem.proofs.FirstLaws.{is_before-filter, is_in_order-filter, newest-filter, then_le}

-- a test of keys says the same of two versions with one place
tested_tied : (test : Bytes → Bool) (v w : Version) → entry_order v w ≡ Equal → test v.key ≡ test w.key
tested_tied test v w e = ap test (sym (tied_key v w e))

filter-by_order : (test : Bytes → Bool) (v w : Version) (rest : List Version) (o : Ordering) → entry_order v w ≡ o → is_in_order (w ∷ rest) ≡ true
    → filter (λ x. test x.key) (placed v rest) ≡ cond (test v.key) (placed v (filter (λ x. test x.key) rest)) (filter (λ x. test x.key) rest)
    → filter (λ x. test x.key) (by_order o (v ∷ w ∷ rest) (v ∷ rest) (w ∷ placed v rest)) ≡ cond (test v.key) (placed v (filter (λ x. test x.key) (w ∷ rest))) (filter (λ x. test x.key) (w ∷ rest))
filter-by_order test v w rest Less e h k =
    let before = is_before-filter (λ x. test x.key) v (w ∷ rest) (ap is_lt e) h in
    ap (λ xs. cond (test v.key) xs (filter (λ x. test x.key) (w ∷ rest))) (sym (placed_first v (filter (λ x. test x.key) (w ∷ rest)) before))
filter-by_order test v w rest Equal e h k = tied (test v.key) (test w.key) (tested_tied test v w e)
  where
    tied : (a b : Bool) → a ≡ b → cond a (v ∷ filter (λ x. test x.key) rest) (filter (λ x. test x.key) rest) ≡ cond a (placed v (cond b (w ∷ filter (λ x. test x.key) rest) (filter (λ x. test x.key) rest))) (cond b (w ∷ filter (λ x. test x.key) rest) (filter (λ x. test x.key) rest))
    tied true true p = sym (by_equal (entry_order v w) _ _ _ e)
    tied true false p = cc
    tied false true p = cc
    tied false false p = refl
filter-by_order test v w rest Greater e h k = after (test v.key) (test w.key) k
  where
    after : (a b : Bool) → filter (λ x. test x.key) (placed v rest) ≡ cond a (placed v (filter (λ x. test x.key) rest)) (filter (λ x. test x.key) rest) → cond b (w ∷ filter (λ x. test x.key) (placed v rest)) (filter (λ x. test x.key) (placed v rest)) ≡ cond a (placed v (cond b (w ∷ filter (λ x. test x.key) rest) (filter (λ x. test x.key) rest))) (cond b (w ∷ filter (λ x. test x.key) rest) (filter (λ x. test x.key) rest))
    after true true p = ap (λ xs. w ∷ xs) p ∙ sym (by_greater (entry_order v w) _ _ _ e)
    after true false p = p
    after false true p = ap (λ xs. w ∷ xs) p
    after false false p = p

pub filter-placed : (test : Bytes → Bool) (v : Version) (versions : List Version) → is_in_order versions ≡ true → filter (λ x. test x.key) (placed v versions) ≡ cond (test v.key) (placed v (filter (λ x. test x.key) versions)) (filter (λ x. test x.key) versions)
filter-placed test v [] h = refl
filter-placed test v (w ∷ rest) h = filter-by_order test v w rest (entry_order v w) refl h (filter-placed test v rest (in_order_cons w rest h).1)

pub is_in_order-in_order : (versions : List Version) → is_in_order (in_order versions) ≡ true
is_in_order-in_order [] = refl
is_in_order-in_order (v ∷ rest) = is_in_order-placed v (in_order rest) (is_in_order-in_order rest)

in_order_cond : (b : Bool) (v : Version) (xs : List Version) → cond b (placed v (in_order xs)) (in_order xs) ≡ in_order (cond b (v ∷ xs) xs)
in_order_cond true v xs = refl
in_order_cond false v xs = refl

pub filter-in_order : (test : Bytes → Bool) (versions : List Version) → filter (λ x. test x.key) (in_order versions) ≡ in_order (filter (λ x. test x.key) versions)
filter-in_order test [] = refl
filter-in_order test (v ∷ rest) =
    filter-placed test v (in_order rest) (is_in_order-in_order rest)
    ∙ ap (λ xs. cond (test v.key) (placed v xs) xs) (filter-in_order test rest)
    ∙ in_order_cond (test v.key) v (filter (λ x. test x.key) rest)

-- filters by tests that agree where the other passes
filters_step : {X : Type 0} (v : X) (xs ys : List X) (a b c : Bool) → (a ≡ true → b ≡ c) → xs ≡ ys → cond a (cond b (v ∷ xs) xs) xs ≡ cond c (cond a (v ∷ ys) ys) ys
filters_step v xs ys true true true h e = ap (λ zs. v ∷ zs) e
filters_step v xs ys true true false h e = let k : true ≡ false = h refl in cc
filters_step v xs ys true false true h e = let k : false ≡ true = h refl in cc
filters_step v xs ys true false false h e = e
filters_step v xs ys false b true h e = e
filters_step v xs ys false b false h e = e

pub filter_cond : {X : Type 0} (p : X → Bool) (b : Bool) (v : X) (xs : List X) → filter p (cond b (v ∷ xs) xs) ≡ cond b (cond (p v) (v ∷ filter p xs) (filter p xs)) (filter p xs)
filter_cond p true v xs = refl
filter_cond p false v xs = refl

pub filter-filter : {X : Type 0} (p q r : X → Bool) → ((x : X) → p x ≡ true → q x ≡ r x) → (xs : List X) → filter q (filter p xs) ≡ filter p (filter r xs)
filter-filter p q r h [] = refl
filter-filter p q r h (v ∷ xs) =
    filter_cond q (p v) v (filter p xs)
    ∙ filters_step v (filter q (filter p xs)) (filter p (filter r xs)) (p v) (q v) (r v) (h v) (filter-filter p q r h xs)
    ∙ sym (filter_cond p (r v) v (filter r xs))

pub kept_at-filter : (test : Bytes → Bool) (cuts : List ℕ) (versions : List Version) → kept_at cuts (filter (λ x. test x.key) versions) ≡ filter (λ x. test x.key) (kept_at cuts versions)
kept_at-filter test cuts versions =
    ap (filter (is_newest_at_a_cut cuts (filter (λ x. test x.key) versions))) (sym (filter-in_order test versions))
    ∙ filter-filter (λ x. test x.key) (is_newest_at_a_cut cuts (filter (λ x. test x.key) versions)) (is_newest_at_a_cut cuts versions)
    (λ v h. any_agree _ _ (λ n. ap (is_version v) (newest-filter test v.key n versions h)) cuts) (in_order versions)

older_put_step : (v w : Version) (b : Bool) (r : Bool) → (is_same_key v.key w.key ≡ true → b ≡ true) → (a : Bool) → is_same_key v.key w.key ≡ a → cond b (is_older_put v w || r) r ≡ (is_older_put v w || r)
older_put_step v w true r h a e = refl
older_put_step v w false r h true e = let k : false ≡ true = h e in cc
older_put_step v w false r h false e = sym (ap (λ c. ((c && ltb w.number v.number) && is_some w.value) || r) e)

pub any_cond : {X : Type 0} (p : X → Bool) (b : Bool) (v : X) (xs : List X) → list_any p (cond b (v ∷ xs) xs) ≡ cond b (p v || list_any p xs) (list_any p xs)
any_cond p true v xs = refl
any_cond p false v xs = refl

older_put-filter : (test : Bytes → Bool) (v : Version) (versions : List Version) → test v.key ≡ true → list_any (is_older_put v) (filter (λ x. test x.key) versions) ≡ list_any (is_older_put v) versions
older_put-filter test v [] h = refl
older_put-filter test v (w ∷ rest) h =
    any_cond (is_older_put v) (test w.key) w (filter (λ x. test x.key) rest)
    ∙ older_put_step v w (test w.key) (list_any (is_older_put v) (filter (λ x. test x.key) rest)) (λ e. sym (ap test (same_key v.key w.key e)) ∙ h) (is_same_key v.key w.key) refl
    ∙ ap (λ b. is_older_put v w || b) (older_put-filter test v rest h)

pub settled-filter : (test : Bytes → Bool) (versions : List Version) → settled (filter (λ x. test x.key) versions) ≡ filter (λ x. test x.key) (settled versions)
settled-filter test versions =
    filter-filter (λ x. test x.key) (λ v. not (deletes_nothing (filter (λ x. test x.key) versions) v)) (λ v. not (deletes_nothing versions v))
    (λ v h. ap (λ b. not (is_none v.value && not b)) (older_put-filter test v versions h)) versions

-- what is kept of a range is the range of what is kept
pub keep-filter : (test : Bytes → Bool) (cuts : List ℕ) (bottom : Bool) (versions : List Version) → keep cuts bottom (filter (λ x. test x.key) versions) ≡ filter (λ x. test x.key) (keep cuts bottom versions)
unfolding keep
keep-filter test cuts true versions = ap settled (kept_at-filter test cuts versions) ∙ settled-filter test (kept_at cuts versions)
keep-filter test cuts false versions = kept_at-filter test cuts versions

pub is_in_order-keep : (cuts : List ℕ) (bottom : Bool) (versions : List Version) → is_in_order (keep cuts bottom versions) ≡ true
unfolding keep
is_in_order-keep cuts true versions = is_in_order-filter _ (kept_at cuts versions) (is_in_order-filter _ (in_order versions) (is_in_order-in_order versions))
is_in_order-keep cuts false versions = is_in_order-filter _ (in_order versions) (is_in_order-in_order versions)

-- keys in order
le_less : (o : Ordering) → is_le o ≡ true → (o ≡ Less → ⊥) → o ≡ Equal
le_less Less e h = absurd (h refl)
le_less Equal e h = refl
le_less Greater e h = cc

le_cases : (o : Ordering) (P : Type 0) → is_le o ≡ true → (o ≡ Less → P) → (o ≡ Equal → P) → P
le_cases Less P e f g = f refl
le_cases Equal P e f g = g refl
le_cases Greater P e f g = let h : false ≡ true = e in absurd (false≢true h)

le_then_le : (a b c : Bytes) → is_le (byte_order a b) ≡ true → is_le (byte_order b c) ≡ true → is_le (byte_order a c) ≡ true
le_then_le a b c e f =
    let o = nat_list_cmp_total in
    le_cases (byte_order a b) (is_le (byte_order a c) ≡ true) e
    (λ less. le_cases (byte_order b c) (is_le (byte_order a c) ≡ true) f
    (λ less2. ap is_le (o.trans a b c less less2))
    (λ tied. ap is_le (sym (alike_right o b c a tied)) ∙ e))
    (λ tied. ap is_le (o.congr a b c tied) ∙ f)

le_then_lt : (a b c : Bytes) → is_le (byte_order a b) ≡ true → is_lt (byte_order b c) ≡ true → is_lt (byte_order a c) ≡ true
le_then_lt a b c e f =
    let o = nat_list_cmp_total in
    le_cases (byte_order a b) (is_lt (byte_order a c) ≡ true) e
    (λ less. ap is_lt (o.trans a b c less (is_lt_Less _ f)))
    (λ tied. ap is_lt (o.congr a b c tied) ∙ f)

pub from_up : (from : Option Bytes) (a b : Bytes) → is_le (byte_order a b) ≡ true → is_from from a ≡ true → is_from from b ≡ true
from_up None a b e h = refl
from_up (Some from) a b e h = le_then_le from a b h e

pub until_down : (to : Option Bytes) (a b : Bytes) → is_le (byte_order a b) ≡ true → is_until to b ≡ true → is_until to a ≡ true
until_down None a b e h = refl
until_down (Some to) a b e h = le_then_lt a b to e h

pub key_order : (v w : Version) → entry_order v w ≡ Less → is_le (byte_order v.key w.key) ≡ true
key_order v w e = then_le (byte_order v.key w.key) (nat_cmp w.number v.number) e

pub keys_in_order : (versions : List Version) (i j : ℕ) (d : Version) → is_in_order versions ≡ true → i ≤ j → j < length versions → is_le (byte_order (get_or versions i d).key (get_or versions j d).key) ≡ true
keys_in_order [] i j d h l m = absurd (omega arith)
keys_in_order (v ∷ rest) zero zero d h l m = ap is_le (tied_itself nat_list_cmp_total v.key)
keys_in_order (v ∷ rest) zero (suc j) d h l m = key_order v (get_or rest j d) (later v rest j d h (omega arith))
keys_in_order (v ∷ rest) (suc i) zero d h l m = absurd (omega arith)
keys_in_order (v ∷ rest) (suc i) (suc j) d h l m = keys_in_order rest i j d (in_order_cons v rest h).1 (omega arith) (omega arith)

not_back : (a b : Bool) → (a ≡ true → b ≡ true) → not b ≡ true → not a ≡ true
not_back true true h e = e
not_back true false h e = let k : false ≡ true = h refl in absurd (false≢true k)
not_back false b h e = refl

pub parted_from : (from : Option Bytes) (versions : List Version) → is_in_order versions ≡ true → IsPartitionedBy (λ v. not (is_from from v.key)) versions
parted_from from versions h i j d l m e =
    not_back (is_from from (get_or versions i d).key) (is_from from (get_or versions j d).key) (from_up from (get_or versions i d).key (get_or versions j d).key (keys_in_order versions i j d h l m)) e

pub parted_until : (to : Option Bytes) (versions : List Version) → is_in_order versions ≡ true → IsPartitionedBy (λ v. is_until to v.key) versions
parted_until to versions h i j d l m e = until_down to (get_or versions i d).key (get_or versions j d).key (keys_in_order versions i j d h l m) e

-- a test that no version fails after one that passed it splits a list
pub filter_from_point : (p : Version → Bool) (versions : List Version) (i : ℕ) → IsPartitionPoint (λ v. not (p v) ≡ true) (λ v. not (p v) ≡ false) versions i → i ≤ length versions → filter p versions ≡ drop i versions
filter_from_point p [] zero h l = refl
filter_from_point p [] (suc i) h l = absurd (omega arith)
filter_from_point p (v ∷ rest) zero h l =
    cond-true (p v) _ _ (not-false (p v) (h.1 0 v (omega arith) (omega arith)))
    ∙ ap (λ xs. v ∷ xs) (filter_from_point p rest 0 (λ k d a b. absurd (omega arith), λ k d a b. h.1 (suc k) d (omega arith) (omega arith)) (omega arith))
filter_from_point p (v ∷ rest) (suc i) h l =
    cond-false (p v) _ _ (not-true (p v) (h.0 0 v (omega arith) (omega arith)))
    ∙ filter_from_point p rest i (λ k d a b. h.0 (suc k) d (omega arith) (omega arith), λ k d a b. h.1 (suc k) d (omega arith) (omega arith)) (omega arith)

pub filter_until_point : (p : Version → Bool) (versions : List Version) (i : ℕ) → IsPartitionPoint (λ v. p v ≡ true) (λ v. p v ≡ false) versions i → i ≤ length versions → filter p versions ≡ take i versions
filter_until_point p [] zero h l = refl
filter_until_point p [] (suc i) h l = absurd (omega arith)
filter_until_point p (v ∷ rest) zero h l =
    cond-false (p v) _ _ (h.1 0 v (omega arith) (omega arith))
    ∙ filter_until_point p rest 0 (λ k d a b. absurd (omega arith), λ k d a b. h.1 (suc k) d (omega arith) (omega arith)) (omega arith)
filter_until_point p (v ∷ rest) (suc i) h l =
    cond-true (p v) _ _ (h.0 0 v (omega arith) (omega arith))
    ∙ ap (λ xs. v ∷ xs) (filter_until_point p rest i (λ k d a b. h.0 (suc k) d (omega arith) (omega arith), λ k d a b. h.1 (suc k) d (omega arith) (omega arith)) (omega arith))
