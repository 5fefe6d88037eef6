-- The bytes of a filter are settled by its bits, and these by the keys in any order.
use Rattle.std.proofs.Common.{ℕ, ◌+◌, ◌*◌, ◌/◌, ◌%◌, ◌^◌, ◌<◌, ◌≢◌, suc, Bool, true, false, ◌≡◌, List, [], ◌∷◌, length, get_or, set, Contains, refl, sym, ◌∙◌, ap, subst, arith, inl, inr, bit_or}
use Rattle.std.specs.Prelude.{◌==◌, fold, replicate}
use Rattle.std.specs.Int.{bit_at}
use Rattle.std.specs.List.{list_any}
use Rattle.std.proofs.lemmas.Bool.{eqb-true, eq-eqb, cases_eq, cases_lt, false_from_ne_true, or_cases}
use Rattle.std.proofs.lemmas.Nat.{mod_below, div-mul-add, mod-mul-add, or_of_8, pow_below}
use Rattle.std.proofs.lemmas.Nat.Bits.{bit_at-lt, same_from_bits_below}
use Rattle.std.proofs.lemmas.List.{ext_get_or, length-replicate, get_or-replicate, get_or_past, get_or_default, get_or-set_same, get_or-set_other, set_past}
use Rattle.std.proofs.lemmas.List.Folds.{list_any_at}
use Rattle.std.proofs.lemmas.List.Sums.{fold-append}
use Rattle.lsm_filter.specs.Probes.{probes}
use Rattle.lsm_filter.specs.Bits.{is_set, is_perhaps, with_bit, with_key, filter_of, is_probed}
use Rattle.lsm_filter.specs.Laws.{FilterLaws}
use Rattle.lsm_filter.proofs.Setting.{exact, member, length-with_key}

-- each is a byte
pub record AreBytes (bytes : List ℕ) : Type 0 where
  pub each : (i : ℕ) → get_or bytes i 0 < 256

bit_from_test : (m n : ℕ) → m < 2 → n < 2 → (m == 1) ≡ (n == 1) → m ≡ n
bit_from_test m n low_m low_n same = elim (cases_eq n 1) [
  | inl one ↦ eqb-true m 1 (same ∙ eq-eqb n 1 one) ∙ sym one
  | inr not_one ↦
      let other : m ≢ 1 = λ one. not_one (eqb-true n 1 (sym same ∙ eq-eqb m 1 one)) in
      omega arith
]

-- a bit of a byte
is_set_at : (bytes : List ℕ) (i k : ℕ) → k < 8 → is_set bytes (i * 8 + k) ≡ (bit_at (get_or bytes i 0) k == 1)
unfolding is_set
is_set_at bytes i k below =
    ap (λ n. bit_at (get_or bytes n 0) ((i * 8 + k) % 8) == 1) (div-mul-add i 8 k below) ∙ ap (λ n. bit_at (get_or bytes i 0) n == 1) (mod-mul-add i 8 k below)

-- whole blocks with the same bits are one
pub same_bytes : (a b : List ℕ) → length a ≡ 4096 → length b ≡ 4096 → AreBytes a → AreBytes b → ((bit : ℕ) → bit < 32768 → is_set a bit ≡ is_set b bit) → a ≡ b
same_bytes a b whole_a whole_b bytes_a bytes_b same =
    ext_get_or 0 a b (whole_a ∙ sym whole_b)
    (λ i within. same_from_bits_below 8 (get_or a i 0) (get_or b i 0) (bytes_a.each i) (bytes_b.each i)
    (λ k below. bit_from_test (bit_at (get_or a i 0) k) (bit_at (get_or b i 0) k) (bit_at-lt (get_or a i 0) k) (bit_at-lt (get_or b i 0) k)
    (sym (is_set_at a i k below) ∙ same (i * 8 + k) (omega arith) ∙ is_set_at b i k below)))

bytes_with_bit : (bytes : List ℕ) (bit : ℕ) → AreBytes bytes → AreBytes (with_bit bytes bit)
unfolding with_bit
bytes_with_bit bytes bit all = record {
  each = λ i.
      let written : ℕ = bit_or (get_or bytes (bit / 8) 0) (2 ^ (bit % 8)) in
      let low : bit % 8 < 8 = mod_below bit 8 (omega arith) in
      let small : written < 256 = or_of_8 (get_or bytes (bit / 8) 0) (2 ^ (bit % 8)) (all.each (bit / 8)) (pow_below (bit % 8) 8 low) in
      elim (cases_eq i (bit / 8)) [
        | inl same ↦ elim (cases_lt (bit / 8) (length bytes)) [
          | inl within ↦ subst (λ n. n < 256) (sym (ap (λ j. get_or (set bytes (bit / 8) written) j 0) same ∙ get_or-set_same bytes (bit / 8) written 0 within)) small
          | inr past ↦ subst (λ (b : List ℕ). get_or b i 0 < 256) (sym (set_past bytes (bit / 8) written past)) (all.each i)
        ]
        | inr apart ↦ subst (λ n. n < 256) (sym (get_or-set_other bytes (bit / 8) i written 0 apart)) (all.each i)
      ];
}

bytes_with_bits : (bytes bits : List ℕ) → AreBytes bytes → AreBytes (fold with_bit bytes bits)
bytes_with_bits bytes [] all = all
bytes_with_bits bytes (bit ∷ bits) all = bytes_with_bits (with_bit bytes bit) bits (bytes_with_bit bytes bit all)

bytes_with_key : (bytes key : List ℕ) → AreBytes bytes → AreBytes (with_key bytes key)
unfolding with_key
bytes_with_key bytes key all = bytes_with_bits bytes (probes key) all

bytes_with_keys : (keys : List (List ℕ)) (bytes : List ℕ) → AreBytes bytes → AreBytes (fold with_key bytes keys)
bytes_with_keys [] bytes all = all
bytes_with_keys (key ∷ keys) bytes all = bytes_with_keys keys (with_key bytes key) (bytes_with_key bytes key all)

no_bytes : AreBytes (replicate 4096 0)
no_bytes = record {
  each = λ i. elim (cases_lt i 4096) [
    | inl within ↦ subst (λ n. n < 256) (sym (get_or-replicate 4096 i 0 0 within)) (omega arith)
    | inr past ↦ subst (λ n. n < 256) (sym (get_or_past (replicate 4096 0) i 0 (omega (arith, length-replicate {A = ℕ} 4096 0)))) (omega arith)
  ];
}

length-with_keys : (keys : List (List ℕ)) (bytes : List ℕ) → length (fold with_key bytes keys) ≡ length bytes
length-with_keys [] bytes = refl
length-with_keys (key ∷ keys) bytes = length-with_keys keys (with_key bytes key) ∙ length-with_key bytes key

pub length-filter_of : (keys : List (List ℕ)) → length (filter_of keys) ≡ 4096
length-filter_of keys = length-with_keys keys (replicate 4096 0) ∙ length-replicate {A = ℕ} 4096 0

-- a filter is settled by the bits of its keys
pub filter_of-same_bits : (keys others : List (List ℕ)) → ((bit : ℕ) → bit < 32768 → is_probed keys bit ≡ is_probed others bit) → filter_of keys ≡ filter_of others
filter_of-same_bits keys others same =
    same_bytes (filter_of keys) (filter_of others) (length-filter_of keys) (length-filter_of others)
    (bytes_with_keys keys (replicate 4096 0) no_bytes) (bytes_with_keys others (replicate 4096 0) no_bytes)
    (λ bit within. exact keys bit within ∙ same bit within ∙ sym (exact others bit within))

-- what holds of one of these holds of one of those
any_among : (test : List ℕ → Bool) (keys others : List (List ℕ)) → ((key : List ℕ) → Contains keys key → Contains others key) → list_any test keys ≡ true → list_any test others ≡ true
any_among test [] others among has = cc
any_among test (key ∷ keys) others among has = elim (or_cases (test key) (list_any test keys) has) [
  | inl here ↦
      let place = among key (0, omega arith, refl) in
      list_any_at test others place.0 key place.1 (ap test place.2 ∙ here)
  | inr later ↦ any_among test keys others (λ k at. among k (suc at.0, omega (arith, at.1), at.2)) later
]

same_test : (a b : Bool) → (a ≡ true → b ≡ true) → (b ≡ true → a ≡ true) → a ≡ b
same_test true b there back = sym (there refl)
same_test false b there back = sym (false_from_ne_true b (λ on. cc (back on)))

-- keys in another order, or written more than once, give the same filter
pub filter_of-same_keys : (keys others : List (List ℕ)) → ((key : List ℕ) → Contains keys key → Contains others key) → ((key : List ℕ) → Contains others key → Contains keys key)
    → filter_of keys ≡ filter_of others
filter_of-same_keys keys others there back =
    filter_of-same_bits keys others
    (λ bit within. same_test (is_probed keys bit) (is_probed others bit)
    (any_among (λ key. list_any (λ probe. probe == bit) (probes key)) keys others there)
    (any_among (λ key. list_any (λ probe. probe == bit) (probes key)) others keys back))

pub filter_laws_hold : FilterLaws
filter_laws_hold = record {
  whole = length-filter_of;
  bytes = λ keys i d within. subst (λ n. n < 256) (get_or_default (filter_of keys) i 0 d within) ((bytes_with_keys keys (replicate 4096 0) no_bytes).each i);
  members = λ keys key among. ap (is_perhaps (filter_of keys)) (sym among.2 ∙ get_or_default keys among.0 key [] among.1) ∙ member keys among.0 among.1;
  exact = exact;
  more = λ keys key. fold-append with_key (replicate 4096 0) keys (key ∷ []);
  same = filter_of-same_keys;
}
