-- Which bits of a filter are set.
use Rattle.std.proofs.Common.{ℕ, ◌+◌, ◌*◌, ◌/◌, ◌%◌, ◌^◌, ◌<◌, ◌≤◌, ◌≢◌, Bool, true, false, ◌||◌, ◌≡◌, List, [], ◌∷◌, length, get_or, set, take, map, refl, sym, ◌∙◌, ap, subst, arith, inl, inr, bit_or}
use Rattle.std.specs.Prelude.{◌==◌, fold, replicate}
use Rattle.std.specs.Int.{bit_at}
use Rattle.std.specs.List.{list_any}
use Rattle.std.proofs.lemmas.Bool.{eq-eqb, ne_eqb, cases_eq, or_left}
use Rattle.std.proofs.lemmas.Nat.{mod_below}
use Rattle.std.proofs.lemmas.Nat.Bits.{bit_at_or, bit_at-pow_same, bit_at-pow_other, bit_at-lt, bit_at-zero}
use Rattle.std.proofs.lemmas.List.{take_all, length-map, length-set, length-replicate, get_or-set_same, get_or-set_other, get_or-replicate, get_or-map}
use Rattle.std.proofs.lemmas.List.Folds.{list_any_at}
use Rattle.std.proofs.lemmas.List.Sums.{list_all-from_AllPass, fold_more}
use Rattle.lsm_filter.specs.Probes.{fnv_hash, probe, turns, probes}
use Rattle.lsm_filter.specs.Bits.{is_set, with_bit, with_key, filter_of, is_probed, has_bits, is_perhaps}

pub probe_below : (hash turn : ℕ) → probe hash turn < 32768
unfolding probe
probe_below hash turn = mod_below _ 32768 (omega arith)

pub length-with_bit : (bytes : List ℕ) (bit : ℕ) → length (with_bit bytes bit) ≡ length bytes
unfolding with_bit
length-with_bit bytes bit = length-set bytes (bit / 8) _

length-with_bits : (bytes bits : List ℕ) → length (fold with_bit bytes bits) ≡ length bytes
length-with_bits bytes [] = refl
length-with_bits bytes (bit ∷ bits) = length-with_bits (with_bit bytes bit) bits ∙ length-with_bit bytes bit

pub length-with_key : (bytes key : List ℕ) → length (with_key bytes key) ≡ length bytes
unfolding with_key
length-with_key bytes key = length-with_bits bytes (probes key)

-- in one byte
bit_same : (n k : ℕ) → bit_at (bit_or n (2 ^ k)) k ≡ 1
bit_same n k = omega (arith, bit_at_or n (2 ^ k) k, bit_at-pow_same k, bit_at-lt n k)

bit_other : (n k i : ℕ) → i ≢ k → bit_at (bit_or n (2 ^ k)) i ≡ bit_at n i
bit_other n k i differ = omega (arith, bit_at_or n (2 ^ k) i, bit_at-pow_other k i differ)

split : (n : ℕ) → 8 * (n / 8) + n % 8 ≡ n
split n = omega arith

is_set-same : (bytes : List ℕ) (at : ℕ) → length bytes ≡ 4096 → at < 32768 → is_set (with_bit bytes at) at ≡ true
unfolding is_set with_bit
is_set-same bytes at whole within =
    let byte : at / 8 < length bytes = omega arith in
    eq-eqb _ 1 (ap (λ n. bit_at n (at % 8)) (get_or-set_same bytes (at / 8) (bit_or (get_or bytes (at / 8) 0) (2 ^ (at % 8))) 0 byte) ∙ bit_same (get_or bytes (at / 8) 0) (at % 8))

is_set-other : (bytes : List ℕ) (at bit : ℕ) → length bytes ≡ 4096 → at < 32768 → at ≢ bit → is_set (with_bit bytes at) bit ≡ is_set bytes bit
unfolding is_set with_bit
is_set-other bytes at bit whole within differ =
    let written : ℕ = bit_or (get_or bytes (at / 8) 0) (2 ^ (at % 8)) in
    elim (cases_eq (bit / 8) (at / 8)) [
      | inl same ↦
          let byte : at / 8 < length bytes = omega arith in
          let other : bit % 8 ≢ at % 8 = λ e. differ (sym (split at) ∙ (omega (arith, same, e)) ∙ split bit) in
          ap (λ n. n == 1)
          (ap (λ i. bit_at (get_or (set bytes (at / 8) written) i 0) (bit % 8)) same
          ∙ ap (λ n. bit_at n (bit % 8)) (get_or-set_same bytes (at / 8) written 0 byte)
          ∙ bit_other (get_or bytes (at / 8) 0) (at % 8) (bit % 8) other
          ∙ ap (λ i. bit_at (get_or bytes i 0) (bit % 8)) (sym same))
      | inr apart ↦ ap (λ n. bit_at n (bit % 8) == 1) (get_or-set_other bytes (at / 8) (bit / 8) written 0 apart)
    ]

is_set-with_bit : (bytes : List ℕ) (at bit : ℕ) → length bytes ≡ 4096 → at < 32768 → is_set (with_bit bytes at) bit ≡ ((at == bit) || is_set bytes bit)
is_set-with_bit bytes at bit whole within = elim (cases_eq at bit) [
  | inl same ↦ ap (is_set (with_bit bytes at)) (sym same) ∙ is_set-same bytes at whole within ∙ sym (or_left (at == bit) (is_set bytes bit) (eq-eqb at bit same))
  | inr differ ↦ is_set-other bytes at bit whole within differ ∙ sym (ap (λ b. b || is_set bytes bit) (ne_eqb at bit differ))
]

or_swap : (a b c : Bool) → (a || (b || c)) ≡ ((b || a) || c)
or_swap true true c = refl
or_swap true false c = refl
or_swap false true c = refl
or_swap false false c = refl

is_set-with_probes : (bytes : List ℕ) (hash : ℕ) (ts : List ℕ) (bit : ℕ) → length bytes ≡ 4096
    → is_set (fold with_bit bytes (map (probe hash) ts)) bit ≡ (list_any (λ p. p == bit) (map (probe hash) ts) || is_set bytes bit)
is_set-with_probes bytes hash [] bit whole = refl
is_set-with_probes bytes hash (t ∷ ts) bit whole =
    is_set-with_probes (with_bit bytes (probe hash t)) hash ts bit (length-with_bit bytes (probe hash t) ∙ whole)
    ∙ ap (λ b. list_any (λ p. p == bit) (map (probe hash) ts) || b) (is_set-with_bit bytes (probe hash t) bit whole (probe_below hash t))
    ∙ or_swap (list_any (λ p. p == bit) (map (probe hash) ts)) (probe hash t == bit) (is_set bytes bit)

pub is_set-with_key : (bytes key : List ℕ) (bit : ℕ) → length bytes ≡ 4096 → is_set (with_key bytes key) bit ≡ (list_any (λ p. p == bit) (probes key) || is_set bytes bit)
unfolding with_key
is_set-with_key bytes key bit whole = is_set-with_probes bytes (fnv_hash key) turns bit whole

is_set-with_keys : (keys : List (List ℕ)) (bytes : List ℕ) (bit : ℕ) → length bytes ≡ 4096 → is_set (fold with_key bytes keys) bit ≡ (is_probed keys bit || is_set bytes bit)
is_set-with_keys [] bytes bit whole = refl
is_set-with_keys (key ∷ keys) bytes bit whole =
    is_set-with_keys keys (with_key bytes key) bit (length-with_key bytes key ∙ whole)
    ∙ ap (λ b. is_probed keys bit || b) (is_set-with_key bytes key bit whole)
    ∙ or_swap (is_probed keys bit) (list_any (λ p. p == bit) (probes key)) (is_set bytes bit)

is_set-none : (bit : ℕ) → bit < 32768 → is_set (replicate 4096 0) bit ≡ false
unfolding is_set
is_set-none bit within =
    let byte : bit / 8 < 4096 = omega arith in
    ap (λ n. bit_at n (bit % 8) == 1) (get_or-replicate 4096 (bit / 8) 0 0 byte) ∙ ap (λ n. n == 1) (bit_at-zero (bit % 8))

or_false : (a b : Bool) → b ≡ false → (a || b) ≡ a
or_false true b off = refl
or_false false b off = off

-- a bit of the filter is set exactly where a key has it
pub exact : (keys : List (List ℕ)) (bit : ℕ) → bit < 32768 → is_set (filter_of keys) bit ≡ is_probed keys bit
exact keys bit within =
    is_set-with_keys keys (replicate 4096 0) bit (length-replicate {A = ℕ} 4096 0) ∙ or_false (is_probed keys bit) (is_set (replicate 4096 0) bit) (is_set-none bit within)

-- each key of the filter has all its bits set
pub member : (keys : List (List ℕ)) (i : ℕ) → i < length keys → is_perhaps (filter_of keys) (get_or keys i []) ≡ true
unfolding is_perhaps has_bits
member keys i within =
    let key : List ℕ = get_or keys i [] in
    list_all-from_AllPass (is_set (filter_of keys)) (probes key)
    (λ j d below.
    let bit : ℕ = get_or (probes key) j d in
    let here : bit ≡ probe (fnv_hash key) (get_or turns j 0) = get_or-map (probe (fnv_hash key)) turns j 0 d below in
    let inside : bit < 32768 = subst (λ n. n < 32768) (sym here) (probe_below (fnv_hash key) (get_or turns j 0)) in
    let has : list_any (λ p. p == bit) (probes key) ≡ true = list_any_at (λ p. p == bit) (probes key) j d below (eq-eqb bit bit refl) in
    let probed : is_probed keys bit ≡ true = list_any_at (λ k. list_any (λ p. p == bit) (probes k)) keys i [] within has in
    exact keys bit inside ∙ probed)

-- a step of a loop over the keys
pub with_next_key : {X : Type 0} (now : X → List ℕ) (bytes : List ℕ) (keys : List X) (i : ℕ) (d : X) → i < length keys
    → fold with_key bytes (take (i + 1) (map now keys)) ≡ with_key (fold with_key bytes (take i (map now keys))) (now (get_or keys i d))
with_next_key now bytes keys i d within =
    let inside : i < length (map now keys) = omega (arith, length-map keys now) in
    fold_more with_key bytes (map now keys) i (now d) inside
    ∙ ap (with_key (fold with_key bytes (take i (map now keys)))) (get_or-map now keys i d (now d) within)

-- its end
pub with_all_keys : {X : Type 0} (now : X → List ℕ) (bytes : List ℕ) (keys : List X) (i : ℕ) → length keys ≤ i
    → fold with_key bytes (take i (map now keys)) ≡ fold with_key bytes (map now keys)
with_all_keys now bytes keys i past = ap (fold with_key bytes) (take_all i (map now keys) (omega (arith, length-map keys now)))

-- each key has all its bits set, for keys given by reference
pub member_of : {X : Type 0} (now : X → List ℕ) (keys : List X) (i : ℕ) (d : X) → i < length keys → is_perhaps (filter_of (map now keys)) (now (get_or keys i d)) ≡ true
member_of now keys i d within =
    ap (is_perhaps (filter_of (map now keys))) (sym (get_or-map now keys i d [] within)) ∙ member (map now keys) i (omega (arith, length-map keys now))
