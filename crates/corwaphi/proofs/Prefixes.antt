-- Which keys begin with a prefix.
use Rattle.std.proofs.Common.{◌≡◌, ◌⊎◌, ◌<◌, ◌≤◌, ◌+◌, ℕ, Bool, true, false, cond, not, ◌&&◌, [], ◌∷◌, ◌++◌, Option, Some, None, ⊎_elim, inl, inr, refl, ap, sym, ◌∙◌, arith}
use Rattle.std.specs.Prelude.{◌==◌, nat_lt, Result, Ok, Err, IfOk}
use Rattle.std.specs.declared.cmp.Ordering.{Ordering}
use Rattle.std.specs.declared.cmp.Ordering.TheVariants.{Less, Equal, Greater}
use Rattle.std.specs.Ordering.{is_lt, nat_cmp, ordering_then}
use Rattle.std.specs.Cmp.{nat_cmp_is}
use Rattle.std.proofs.lemmas.Bool.{cases_lt, eqb-true, eq-eqb, ltb-false}
use Rattle.lsm_codec.specs.Keys.{Bytes, byte_order}
use Rattle.corwaphi.specs.Prefix.{begins_with, behind_byte, behind_prefix, is_before, PrefixLaw}

-- ---- the last byte

pub behind_last : (front : Bytes) (last : ℕ) → behind_prefix (front ++ last ∷ []) ≡ cond (nat_lt last 255) (Some (front ++ (last + 1) ∷ [])) (behind_prefix front)
behind_last [] last = refl
behind_last (byte ∷ front) last = ap (behind_byte byte) (behind_last front last) ∙ by (nat_lt last 255)
  where
    by : (t : Bool) → behind_byte byte (cond t (Some (front ++ (last + 1) ∷ [])) (behind_prefix front)) ≡ cond t (Some (byte ∷ front ++ (last + 1) ∷ [])) (behind_byte byte (behind_prefix front))
    by true = refl
    by false = refl

pub raised_last : (prefix front : Bytes) (last : ℕ) → prefix ≡ front ++ last ∷ [] → nat_lt last 255 ≡ true → Some (front ++ (last + 1) ∷ []) ≡ behind_prefix prefix
raised_last prefix front last is small =
    sym (ap behind_prefix is ∙ behind_last front last ∙ ap (λ (t : Bool). cond t (Some (front ++ (last + 1) ∷ [])) (behind_prefix front)) small)

pub dropped_last : (prefix front : Bytes) (last : ℕ) → prefix ≡ front ++ last ∷ [] → nat_lt last 255 ≡ false → behind_prefix front ≡ behind_prefix prefix
dropped_last prefix front last is large =
    sym (ap behind_prefix is ∙ behind_last front last ∙ ap (λ (t : Bool). cond t (Some (front ++ (last + 1) ∷ [])) (behind_prefix front)) large)

-- what is told if nothing is refused
pub told_end : {X E : Type 0} (f : X → Option Bytes) (r : Result X E) (a b : Option Bytes) → a ≡ b → IfOk r (λ end. f end ≡ a) → IfOk r (λ end. f end ≡ b)
told_end f (Ok end) a b is h = h ∙ is
told_end f (Err e) a b is h = tt

-- ---- bytes

less : (k b : ℕ) → k < b → nat_cmp k b ≡ Less
less k b h = sym (nat_cmp_is k b Less h)

equal : (k b : ℕ) → k ≡ b → nat_cmp k b ≡ Equal
equal k b h = sym (nat_cmp_is k b Equal h)

greater : (k b : ℕ) → b < k → nat_cmp k b ≡ Greater
greater k b h = sym (nat_cmp_is k b Greater h)

other : (b k : ℕ) → (k < b) ⊎ (b < k) → (b == k) ≡ false
other b k apart = by (b == k) refl
  where
    by : (t : Bool) → (b == k) ≡ t → t ≡ false
    by true e = absurd (⊎_elim (λ (h : k < b). omega (arith, h, eqb-true b k e)) (λ (h : b < k). omega (arith, h, eqb-true b k e)) apart)
    by false e = refl

-- no key is before none
not_before_none : (key : Bytes) → is_lt (byte_order key []) ≡ false
not_before_none [] = refl
not_before_none (k ∷ key) = refl

-- ---- the range

module _ (b k : ℕ) (key : Bytes) where
  not_after : b < k → k < 256 → (o : Option Bytes) → is_before (k ∷ key) (behind_byte b o) ≡ false
  not_after h small (Some end) = ap (λ (c : Ordering). is_lt (ordering_then c (byte_order key end))) (greater k b h)
  not_after h small None = by (nat_lt b 255) refl
    where
      next : (k ≡ b + 1) ⊎ (b + 1 < k) → is_lt (ordering_then (nat_cmp k (b + 1)) (byte_order key [])) ≡ false
      next (inl e) = ap (λ (c : Ordering). is_lt (ordering_then c (byte_order key []))) (equal k (b + 1) e) ∙ not_before_none key
      next (inr e) = ap (λ (c : Ordering). is_lt (ordering_then c (byte_order key []))) (greater k (b + 1) e)

      by : (t : Bool) → nat_lt b 255 ≡ t → is_before (k ∷ key) (cond t (Some ((b + 1) ∷ [])) None) ≡ false
      by true e = next (⊎_elim (λ (g : b + 1 < k). inr g) (λ (g : k ≤ b + 1). inl (omega (arith, g, h))) (cases_lt (b + 1) k))
      by false e = absurd (omega (arith, h, small, ltb-false b 255 e))

  goes_on : k ≡ b → (o : Option Bytes) → is_before (k ∷ key) (behind_byte b o) ≡ is_before key o
  goes_on h (Some end) = ap (λ (c : Ordering). is_lt (ordering_then c (byte_order key end))) (equal k b h)
  goes_on h None = by (nat_lt b 255)
    where
      by : (t : Bool) → is_before (k ∷ key) (cond t (Some ((b + 1) ∷ [])) None) ≡ true
      by true = ap (λ (c : Ordering). is_lt (ordering_then c (byte_order key []))) (less k (b + 1) (omega (arith, h)))
      by false = refl

module _ (b k : ℕ) (prefix key : Bytes) where
  abbrev Holds : Type 0
  Holds = begins_with (b ∷ prefix) (k ∷ key) ≡ (not (is_lt (byte_order (k ∷ key) (b ∷ prefix))) && is_before (k ∷ key) (behind_prefix (b ∷ prefix)))

  abbrev rest : Ordering → Bool
  rest c = not (is_lt (ordering_then c (byte_order key prefix)))

  before : k < b → Holds
  before h = ap (λ (t : Bool). t && begins_with prefix key) (other b k (inl h))
      ∙ sym (ap (λ (c : Ordering). rest c && is_before (k ∷ key) (behind_prefix (b ∷ prefix))) (less k b h))

  after : b < k → k < 256 → Holds
  after h small = ap (λ (t : Bool). t && begins_with prefix key) (other b k (inr h))
      ∙ sym (ap (λ (c : Ordering). rest c && is_before (k ∷ key) (behind_prefix (b ∷ prefix))) (greater k b h)
      ∙ not_after b k key h small (behind_prefix prefix))

  same : k ≡ b → begins_with prefix key ≡ (not (is_lt (byte_order key prefix)) && is_before key (behind_prefix prefix)) → Holds
  same h so = ap (λ (t : Bool). t && begins_with prefix key) (eq-eqb b k (sym h))
      ∙ so
      ∙ sym (ap (λ (c : Ordering). rest c && is_before (k ∷ key) (behind_prefix (b ∷ prefix))) (equal k b h)
      ∙ ap (λ (t : Bool). not (is_lt (byte_order key prefix)) && t) (goes_on b k key h (behind_prefix prefix)))

pub prefix_law : PrefixLaw
prefix_law [] [] all = refl
prefix_law [] (k ∷ key) all = refl
prefix_law (b ∷ prefix) [] all = refl
prefix_law (b ∷ prefix) (k ∷ key) all =
    let so = prefix_law prefix key all.1 in
    ⊎_elim (before b k prefix key)
    (λ (h : b ≤ k). ⊎_elim (λ (g : b < k). after b k prefix key g all.0) (λ (g : k ≤ b). same b k prefix key (omega (arith, h, g)) so) (cases_lt b k))
    (cases_lt k b)
