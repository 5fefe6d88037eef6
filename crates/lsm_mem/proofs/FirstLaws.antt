-- The first version of a key, among versions in order.
use Rattle.std.proofs.Common.{◌≡◌, ℕ, ◌<◌, ◌≤◌, Bool, true, false, cond, ltb, leb, List, [], ◌∷◌, filter, Option, Some, None, refl, ap, sym, ◌∙◌, arith}
use Rattle.std.proofs.lemmas.Bool.{and_parts, cond_both, cond-true, cond-false, le-ltb, lt-ltb}
use Rattle.std.specs.declared.cmp.Ordering.{Ordering}
use Rattle.std.specs.declared.cmp.Ordering.TheVariants.{Less, Equal, Greater}
use Rattle.std.specs.Ordering.{is_lt, is_le, ordering_then}
use Rattle.lsm_codec.specs.Keys.{Bytes}
use Rattle.lsm_codec.specs.Versions.{Version, is_same_key, entry_order, newer_of, newest, is_version_of}
use Rattle.lsm_codec.proofs.KeyOrder.{is_lt_Less, same_key}
use Rattle.lsm_mem.proofs.OrderTests.{is_before, is_in_order, before_both, in_order_cons, cons_in_order}
use Rattle.lsm_mem.proofs.Orders.{older_number, cond_same}

-- a version before the first of a list in order is before the others
pub is_before_rest : (x v : Version) (rest : List Version) → entry_order x v ≡ Less → is_before v rest ≡ true → is_before x rest ≡ true
is_before_rest x v [] e h = refl
is_before_rest x v (w ∷ rest) e h = ap is_lt (before_both x v w e (is_lt_Less _ h))

-- the first version of a key that is numbered at most n
abbrev pub first_at : Bytes → ℕ → List Version → Option Version
first_at key n [] = None
first_at key n (v ∷ rest) = cond (is_version_of key n v) (Some v) (first_at key n rest)

pub not_newer : (v w : Version) → w.number ≤ v.number → newer_of v (Some w) ≡ v
not_newer v w h = cond-false (ltb v.number w.number) w v (le-ltb v.number w.number h)

pub is_newer : (v w : Version) → v.number < w.number → newer_of v (Some w) ≡ w
is_newer v w h = cond-true (ltb v.number w.number) w v (lt-ltb v.number w.number h)

pub is_version_of-key : (key : Bytes) (n : ℕ) (v : Version) → is_version_of key n v ≡ true → is_same_key key v.key ≡ true
is_version_of-key key n v e = (and_parts (is_same_key key v.key) (leb v.number n) e).0

pub in_order_skip : (w u : Version) (rest : List Version) → is_in_order (w ∷ u ∷ rest) ≡ true → is_in_order (w ∷ rest) ≡ true
in_order_skip w u rest h =
    let a = in_order_cons w (u ∷ rest) h in
    let b = in_order_cons u rest a.1 in
    cons_in_order w rest (is_before_rest w u rest (is_lt_Less _ a.0) b.0) b.1

pub first_less : (w u : Version) (rest : List Version) → is_in_order (w ∷ u ∷ rest) ≡ true → entry_order w u ≡ Less
first_less w u rest h = is_lt_Less _ (in_order_cons w (u ∷ rest) h).0

newer_than_found : (key : Bytes) (n : ℕ) (w : Version) (rest : List Version) → is_in_order (w ∷ rest) ≡ true → is_same_key key w.key ≡ true → newer_of w (first_at key n rest) ≡ w
newer_than_found key n w [] h k = refl
newer_than_found key n w (u ∷ rest) h k =
    cond_both (is_version_of key n u) (Some u) (first_at key n rest) (λ o. newer_of w o ≡ w)
    (λ e. let older = older_number key w u (first_less w u rest h) k (is_version_of-key key n u e) in not_newer w u (omega arith))
    (λ e. newer_than_found key n w rest (in_order_skip w u rest h) k)

-- in order, the newest is the first
pub newest-first : (key : Bytes) (n : ℕ) (versions : List Version) → is_in_order versions ≡ true → newest key n versions ≡ first_at key n versions
newest-first key n [] h = refl
newest-first key n (w ∷ rest) h =
    let a = in_order_cons w rest h in
    let same = newest-first key n rest a.1 in
    cond_same (is_version_of key n w) _ _ _ _
    (λ e. ap (λ o. Some (newer_of w o)) same ∙ ap (λ v. Some v) (newer_than_found key n w rest h (is_version_of-key key n w e)))
    (λ e. same)

-- a filter keeps the order
pub is_before-filter : (test : Version → Bool) (x : Version) (versions : List Version) → is_before x versions ≡ true → is_in_order versions ≡ true → is_before x (filter test versions) ≡ true
is_before-filter test x [] h k = refl
is_before-filter test x (v ∷ rest) h k =
    let a = in_order_cons v rest k in
    cond_both (test v) (v ∷ filter test rest) (filter test rest) (λ xs. is_before x xs ≡ true)
    (λ _. h)
    (λ _. is_before-filter test x rest (is_before_rest x v rest (is_lt_Less _ h) a.0) a.1)

pub is_in_order-filter : (test : Version → Bool) (versions : List Version) → is_in_order versions ≡ true → is_in_order (filter test versions) ≡ true
is_in_order-filter test [] h = refl
is_in_order-filter test (v ∷ rest) h =
    let a = in_order_cons v rest h in
    let k = is_in_order-filter test rest a.1 in
    cond_both (test v) (v ∷ filter test rest) (filter test rest) (λ xs. is_in_order xs ≡ true)
    (λ _. cons_in_order v (filter test rest) (is_before-filter test v rest a.0 a.1) k)
    (λ _. k)

-- among the versions of keys that pass, the newest of such a key is the same
newest_step : (key : Bytes) (n : ℕ) (v : Version) (rest : List Version) (a b : Bool) → is_version_of key n v ≡ a → (a ≡ true → b ≡ true) → newest key n (cond b (v ∷ rest) rest) ≡ newest key n (v ∷ rest)
newest_step key n v rest a true e h = refl
newest_step key n v rest true false e h = let k : false ≡ true = h refl in cc
newest_step key n v rest false false e h = sym (ap (λ c. cond c (Some (newer_of v (newest key n rest))) (newest key n rest)) e)

pub newest-filter : (test : Bytes → Bool) (key : Bytes) (n : ℕ) (versions : List Version) → test key ≡ true → newest key n (filter (λ x. test x.key) versions) ≡ newest key n versions
newest-filter test key n [] h = refl
newest-filter test key n (v ∷ rest) h =
    newest_step key n v (filter (λ x. test x.key) rest) (is_version_of key n v) (test v.key) refl
    (λ e. sym (ap test (same_key key v.key (is_version_of-key key n v e))) ∙ h)
    ∙ ap (λ o. cond (is_version_of key n v) (Some (newer_of v o)) o) (newest-filter test key n rest h)

pub then_le : (a b : Ordering) → ordering_then a b ≡ Less → is_le a ≡ true
then_le Less b e = refl
then_le Equal b e = refl
then_le Greater b e = cc

skipped : (test : Version → Bool) (key : Bytes) (n : ℕ) (v : Version) (rest : List Version) (b : Bool) → is_version_of key n v ≡ false → first_at key n (cond b (v ∷ rest) rest) ≡ first_at key n rest
skipped test key n v rest true e = ap (λ c. cond c (Some v) (first_at key n rest)) e
skipped test key n v rest false e = refl

found_at : (test : Version → Bool) (key : Bytes) (n : ℕ) (v : Version) (rest : List Version) (b : Bool) → is_version_of key n v ≡ b → ((w : Version) → first_at key n (v ∷ rest) ≡ Some w → test w ≡ true)
    → (((w : Version) → first_at key n rest ≡ Some w → test w ≡ true) → first_at key n (filter test rest) ≡ first_at key n rest) → first_at key n (filter test (v ∷ rest)) ≡ first_at key n (v ∷ rest)
found_at test key n v rest true e h next =
    let found : first_at key n (v ∷ rest) ≡ Some v = ap (λ c. cond c (Some v) (first_at key n rest)) e in
    ap (λ b. first_at key n (cond b (v ∷ filter test rest) (filter test rest))) (h v found)
    ∙ ap (λ c. cond c (Some v) (first_at key n (filter test rest))) e ∙ sym found
found_at test key n v rest false e h next =
    let passed : first_at key n (v ∷ rest) ≡ first_at key n rest = ap (λ c. cond c (Some v) (first_at key n rest)) e in
    skipped test key n v (filter test rest) (test v) e ∙ next (λ w f. h w (passed ∙ f)) ∙ sym passed

-- a filter that passes the first that is found leaves it the first
pub first-filter : (test : Version → Bool) (key : Bytes) (n : ℕ) (versions : List Version) → ((v : Version) → first_at key n versions ≡ Some v → test v ≡ true) → first_at key n (filter test versions) ≡ first_at key n versions
first-filter test key n [] h = refl
first-filter test key n (v ∷ rest) h = found_at test key n v rest (is_version_of key n v) refl h (λ k. first-filter test key n rest k)

found_key : (key : Bytes) (n : ℕ) (w v : Version) (o : Option Version) (b : Bool) → is_version_of key n w ≡ b → cond b (Some w) o ≡ Some v → (o ≡ Some v → key ≡ v.key) → key ≡ v.key
found_key key n w v o true f g next = let same : w ≡ v = cc in same_key key w.key (is_version_of-key key n w f) ∙ ap (λ x. x.key) same
found_key key n w v o false f g next = next g

pub first_key : (key : Bytes) (n : ℕ) (versions : List Version) (v : Version) → first_at key n versions ≡ Some v → key ≡ v.key
first_key key n [] v e = cc
first_key key n (w ∷ rest) v e = found_key key n w v (first_at key n rest) (is_version_of key n w) refl e (first_key key n rest v)

pub lt_is_le : (o : Ordering) → is_lt o ≡ true → is_le o ≡ true
lt_is_le Less e = refl
lt_is_le Equal e = refl
lt_is_le Greater e = e

pub unsome : {X : Type 0} (a b : X) → Some a ≡ Some b → a ≡ b
unsome a b e = cc
