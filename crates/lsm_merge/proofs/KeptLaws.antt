-- Which places of versions in order hold the newest of a key at a cut.
use Rattle.std.proofs.Common.{◌≡◌, ℕ, suc, zero, ◌<◌, ◌≤◌, Bool, true, false, cond, ◌&&◌, ◌||◌, ltb, leb, eqb, List, [], ◌∷◌, length, get_or, filter, Some, None, refl, ap, sym, ◌∙◌, arith}
use Rattle.std.specs.List.{list_any}
use Rattle.std.proofs.lemmas.Bool.{and_parts, and_right, cond_both, cond-true, le-ltb, lt-ltb, leb-true, leb-false, eq-eqb, ne_eqb}
use Rattle.std.proofs.lemmas.List.Elements.{filter_agree}
use Rattle.std.specs.declared.cmp.Ordering.{Ordering}
use Rattle.std.specs.declared.cmp.Ordering.TheVariants.{Less, Equal, Greater}
use Rattle.std.specs.Ordering.{is_eq, ordering_then, ordering_reverse, nat_cmp}
use Rattle.std.proofs.lemmas.Cmp.{nat_list_cmp_total}
use Rattle.lsm_codec.specs.Keys.{byte_order}
use Rattle.lsm_codec.specs.Versions.{Version, is_same_key, entry_order, newest, is_version_of}
use Rattle.lsm_mem.specs.Ranges.{is_version}
use Rattle.lsm_codec.proofs.KeyOrder.{key_itself, is_eq_Equal}
use Rattle.lsm_merge.specs.Keeping.{in_order, is_newest_at_a_cut, kept_at}
use Rattle.lsm_merge.specs.Loops.{shows_at, number_before, previous}
use Rattle.lsm_mem.proofs.OrderTests.{is_in_order, in_order_cons}
use Rattle.lsm_mem.proofs.Orders.{older_number}
use Rattle.lsm_merge.proofs.NewestLaws.{newest-in_order}
use Rattle.lsm_mem.proofs.FirstLaws.{first_at, newest-first, is_version_of-key, in_order_skip, first_less}

pub later : (w : Version) (rest : List Version) (k : ℕ) (d : Version) → is_in_order (w ∷ rest) ≡ true → k < length rest → entry_order w (get_or rest k d) ≡ Less
later w [] k d h i = absurd (omega arith)
later w (u ∷ rest) zero d h i = first_less w u rest h
later w (u ∷ rest) (suc k) d h i = later w rest k d (in_order_skip w u rest h) (omega arith)

not_same_number : (m n : ℕ) → m < n → eqb m n ≡ false
not_same_number m n h = ne_eqb m n (λ e. omega arith)

found_older : (n : ℕ) (w : Version) (rest : List Version) → is_in_order (w ∷ rest) ≡ true → is_version w (first_at w.key n rest) ≡ false
found_older n w [] h = refl
found_older n w (u ∷ rest) h =
    cond_both (is_version_of w.key n u) (Some u) (first_at w.key n rest) (λ o. is_version w o ≡ false)
    (λ e. not_same_number u.number w.number (older_number w.key w u (first_less w u rest h) (key_itself w.key) (is_version_of-key w.key n u e)))
    (λ e. found_older n w rest (in_order_skip w u rest h))

pub adjacent : (versions : List Version) (k : ℕ) (d : Version) → is_in_order versions ≡ true → suc k < length versions → entry_order (get_or versions k d) (get_or versions (suc k) d) ≡ Less
adjacent [] k d h i = absurd (omega arith)
adjacent (w ∷ rest) zero d h i = later w rest 0 d h (omega arith)
adjacent (w ∷ rest) (suc k) d h i = adjacent rest k d (in_order_cons w rest h).1 (omega arith)

-- between two versions of one key are only versions of that key
between_order : (a b : Ordering) → ordering_then a b ≡ Less → a ≡ Greater → ⊥
between_order Less b e f = cc
between_order Equal b e f = cc
between_order Greater b e f = cc

not_less_greater : (o : Ordering) → (o ≡ Less → ⊥) → (o ≡ Greater → ⊥) → o ≡ Equal
not_less_greater Less p q = absurd (p refl)
not_less_greater Equal p q = refl
not_less_greater Greater p q = absurd (q refl)

pub between_key : (w p v : Version) → entry_order w p ≡ Less → entry_order p v ≡ Less → is_same_key v.key w.key ≡ true → is_same_key v.key p.key ≡ true
between_key w p v e f h =
    let o = nat_list_cmp_total in
    let tied : byte_order v.key w.key ≡ Equal = is_eq_Equal _ h in
    let alike : byte_order v.key p.key ≡ byte_order w.key p.key = o.congr v.key w.key p.key tied in
    let not_greater : byte_order v.key p.key ≡ Greater → ⊥ = λ g. between_order (byte_order w.key p.key) (nat_cmp p.number w.number) e (sym alike ∙ g) in
    let not_less : byte_order v.key p.key ≡ Less → ⊥ = λ g. between_order (byte_order p.key v.key) (nat_cmp v.number p.number) f (o.antisymm p.key v.key ∙ ap ordering_reverse g) in
    ap is_eq (not_less_greater (byte_order v.key p.key) not_less not_greater)

shows_hidden : (n number above : ℕ) → above ≤ n → shows_at n number (Some above) ≡ false
shows_hidden n number above h = and_right (leb number n) (ltb n above) (le-ltb n above h)

hidden_by : (n : ℕ) (v w : Version) → is_same_key v.key w.key ≡ true → w.number ≤ n → shows_at n v.number (number_before v (Some w)) ≡ false
hidden_by n v w h k = ap (shows_at n v.number) (cond-true (is_same_key v.key w.key) (Some w.number) None h) ∙ shows_hidden n v.number w.number k

and_true : (b : Bool) → (b && true) ≡ b
and_true true = refl
and_true false = refl

not_hidden_by : (n : ℕ) (v w : Version) → is_version_of v.key n w ≡ false → leb v.number n ≡ shows_at n v.number (number_before v (Some w))
not_hidden_by n v w e =
    cond_both (is_same_key v.key w.key) (Some w.number) None (λ o. leb v.number n ≡ shows_at n v.number o)
    (λ h. let above = leb-false w.number n (sym (ap (λ b. b && leb w.number n) h) ∙ e) in
    sym (and_true (leb v.number n)) ∙ ap (λ b. leb v.number n && b) (sym (lt-ltb n w.number above)))
    (λ h. refl)

-- the first version is shown where it is numbered at most n
first_shows : (n : ℕ) (w : Version) (rest : List Version) (a b : Bool) → a ≡ true → leb w.number n ≡ b → is_in_order (w ∷ rest) ≡ true → is_version w (cond (a && b) (Some w) (first_at w.key n rest)) ≡ b
first_shows n w rest true true e f h = eq-eqb w.number w.number refl
first_shows n w rest true false e f h = found_older n w rest h
first_shows n w rest false b e f h = cc

-- a place holds the newest of its key at n where it is numbered at most n and no newer one that is comes before it
pub newest_at_place : (n : ℕ) (versions : List Version) (i : ℕ) (d : Version) → is_in_order versions ≡ true → i < length versions → is_version (get_or versions i d) (first_at (get_or versions i d).key n versions) ≡ shows_at n (get_or versions i d).number (number_before (get_or versions i d) (previous versions i d))
newest_at_place n [] i d h l = absurd (omega arith)
newest_at_place n (w ∷ rest) zero d h l = first_shows n w rest (is_same_key w.key w.key) (leb w.number n) (key_itself w.key) refl h
newest_at_place n (w ∷ rest) (suc zero) d h l =
    let v = get_or rest 0 d in
    let less = later w rest 0 d h (omega arith) in
    cond_both (is_version_of v.key n w) (Some w) (first_at v.key n rest) (λ o. is_version v o ≡ shows_at n v.number (number_before v (Some w)))
    (λ e. let parts = and_parts (is_same_key v.key w.key) (leb w.number n) e in
    let older = older_number v.key w v less parts.0 (key_itself v.key) in
    ne_eqb w.number v.number (λ f. omega arith) ∙ sym (hidden_by n v w parts.0 (leb-true w.number n parts.1)))
    (λ e. newest_at_place n rest 0 d (in_order_cons w rest h).1 (omega arith) ∙ not_hidden_by n v w e)
newest_at_place n (w ∷ rest) (suc (suc k)) d h l =
    let v = get_or rest (suc k) d in
    let p = get_or rest k d in
    let less = later w rest (suc k) d h (omega arith) in
    let tail = (in_order_cons w rest h).1 in
    cond_both (is_version_of v.key n w) (Some w) (first_at v.key n rest) (λ o. is_version v o ≡ shows_at n v.number (number_before v (Some p)))
    (λ e. let parts = and_parts (is_same_key v.key w.key) (leb w.number n) e in
    let older = older_number v.key w v less parts.0 (key_itself v.key) in
    let first = later w rest k d h (omega arith) in
    let second = adjacent rest k d tail (omega arith) in
    let same = between_key w p v first second parts.0 in
    let below = older_number v.key w p first parts.0 same in
    let within = leb-true w.number n parts.1 in
    ne_eqb w.number v.number (λ f. omega arith) ∙ sym (hidden_by n v p same (omega arith)))
    (λ e. newest_at_place n rest (suc k) d tail (omega arith))

-- a place of versions in order is the newest of its key at a cut exactly where one of the cuts shows it
pub newest_at_a_cut : (cuts : List ℕ) (versions : List Version) (i : ℕ) (d : Version) → is_in_order versions ≡ true → i < length versions → list_any (λ n. shows_at n (get_or versions i d).number (number_before (get_or versions i d) (previous versions i d))) cuts ≡ is_newest_at_a_cut cuts versions (get_or versions i d)
newest_at_a_cut [] versions i d h l = refl
newest_at_a_cut (n ∷ cuts) versions i d h l =
    let v = get_or versions i d in
    let one : shows_at n v.number (number_before v (previous versions i d)) ≡ is_version v (newest v.key n versions) =
    sym (ap (is_version v) (newest-first v.key n versions h) ∙ newest_at_place n versions i d h l) in
    let rest = newest_at_a_cut cuts versions i d h l in
    ap (λ b. b || list_any (λ m. shows_at m v.number (number_before v (previous versions i d))) cuts) one ∙ ap (λ b. is_version v (newest v.key n versions) || b) rest

pub any_agree : {X : Type 0} (p q : X → Bool) → ((x : X) → p x ≡ q x) → (xs : List X) → list_any p xs ≡ list_any q xs
any_agree p q h [] = refl
any_agree p q h (x ∷ xs) = ap (λ b. b || list_any p xs) (h x) ∙ ap (λ b. q x || b) (any_agree p q h xs)

-- the tests among versions and among these in order are one
pub newest_test_in_order : (cuts : List ℕ) (versions : List Version) (v : Version) → is_newest_at_a_cut cuts (in_order versions) v ≡ is_newest_at_a_cut cuts versions v
newest_test_in_order cuts versions v = any_agree _ _ (λ n. ap (is_version v) (newest-in_order v.key n versions)) cuts

pub kept_at-in_order : (cuts : List ℕ) (versions : List Version) → filter (is_newest_at_a_cut cuts (in_order versions)) (in_order versions) ≡ kept_at cuts versions
kept_at-in_order cuts versions = filter_agree _ _ (newest_test_in_order cuts versions) (in_order versions)
