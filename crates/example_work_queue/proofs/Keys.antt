-- Keys, numbers and rows.
use Rattle.std.proofs.Common.{◌≡◌, ◌≢◌, ◌⊎◌, ◌<◌, ◌^◌, ℕ, Bool, true, false, cond, [], ◌∷◌, Some, None, inl, inr, refl, ap, sym, ◌∙◌, arith}
use Rattle.std.specs.Prelude.{slice_index}
use Rattle.std.proofs.lemmas.Cmp.{nat_list_cmp_total}
use Rattle.std.specs.FinMap as finite
use Rattle.std.specs.FinMap.{get-insert, get-remove}
use Rattle.byteorder.specs.Numbers.{big_number-reads_back}
use Rattle.lsm_codec.specs.Keys.{Bytes}
use Rattle.lsm_codec.specs.Map.{Map}
use Rattle.lsm_codec.specs.Versions.{is_same_key}
use Rattle.lsm_codec.proofs.KeyOrder.{same_key, key_itself}
use Rattle.example_work_queue.specs.Tasks.{number_bytes, number_in, last_key, waiting_key, claimed_key}

-- ---- numbers

pub bytes_back : (n : ℕ) → n < 2 ^ 64 → number_in (number_bytes n) ≡ n
unfolding number_in number_bytes
bytes_back n fits = big_number-reads_back 8 n [] fits

pub same_number : (a b : ℕ) → a < 2 ^ 64 → b < 2 ^ 64 → number_bytes a ≡ number_bytes b → a ≡ b
same_number a b low high e = sym (bytes_back a low) ∙ ap number_in e ∙ bytes_back b high

-- ---- keys

rest_of : Bytes → Bytes
rest_of [] = []
rest_of (a ∷ rest) = rest

pub same_rest : (a b : ℕ) (x y : Bytes) → a ∷ x ≡ b ∷ y → x ≡ y
unfolding rest_of
same_rest a b x y e = ap rest_of e

apart_by_first : (a b : ℕ) (x y : Bytes) → a ≢ b → a ∷ x ≢ b ∷ y
apart_by_first a b x y apart e = apart (ap (λ (l : Bytes). slice_index l 0) e)

pub waiting_not_last : (n : ℕ) → waiting_key n ≢ last_key
waiting_not_last n = apart_by_first 119 110 _ _ (omega arith)

pub claimed_not_last : (n : ℕ) → claimed_key n ≢ last_key
claimed_not_last n = apart_by_first 99 110 _ _ (omega arith)

pub waiting_not_claimed : (a b : ℕ) → waiting_key a ≢ claimed_key b
waiting_not_claimed a b = apart_by_first 119 99 _ _ (omega arith)

pub claimed_not_waiting : (a b : ℕ) → claimed_key a ≢ waiting_key b
claimed_not_waiting a b = apart_by_first 99 119 _ _ (omega arith)

pub same_waiting : (a b : ℕ) → a < 2 ^ 64 → b < 2 ^ 64 → waiting_key a ≡ waiting_key b → a ≡ b
same_waiting a b low high e = same_number a b low high (same_rest 119 119 _ _ e)

pub same_claimed : (a b : ℕ) → a < 2 ^ 64 → b < 2 ^ 64 → claimed_key a ≡ claimed_key b → a ≡ b
same_claimed a b low high e = same_number a b low high (same_rest 99 99 _ _ e)

-- the two keys of a task go together
pub claimed_with_waiting : (a b : ℕ) → waiting_key a ≡ waiting_key b → claimed_key a ≡ claimed_key b
claimed_with_waiting a b e = ap (λ (l : Bytes). 99 ∷ l) (same_rest 119 119 _ _ e)

pub waiting_with_claimed : (a b : ℕ) → claimed_key a ≡ claimed_key b → waiting_key a ≡ waiting_key b
waiting_with_claimed a b e = ap (λ (l : Bytes). 119 ∷ l) (same_rest 99 99 _ _ e)

other_key : (a b : Bytes) → a ≢ b → is_same_key a b ≡ false
other_key a b apart = by (is_same_key a b) refl
  where
    by : (same : Bool) → is_same_key a b ≡ same → same ≡ false
    by true e = absurd (apart (same_key a b e))
    by false e = refl

pub same_or_other : (a b : Bytes) → (a ≡ b) ⊎ (a ≢ b)
same_or_other a b = by (is_same_key a b) refl
  where
    by : (same : Bool) → is_same_key a b ≡ same → (a ≡ b) ⊎ (a ≢ b)
    by true e = inl (same_key a b e)
    by false e = inr (λ is. false_true (sym e ∙ ap (is_same_key a) (sym is) ∙ key_itself a))
      where
        false_true : false ≡ true → ⊥
        false_true h = cc

-- ---- maps

pub got_put : (m : Map) (key value : Bytes) → finite.get (finite.insert m key value) key ≡ Some value
got_put m key value = get-insert nat_list_cmp_total m key value key ∙ ap (λ (b : Bool). cond b (Some value) (finite.get m key)) (key_itself key)

pub got_put_other : (m : Map) (key value other : Bytes) → other ≢ key → finite.get (finite.insert m key value) other ≡ finite.get m other
got_put_other m key value other apart = get-insert nat_list_cmp_total m key value other ∙ ap (λ (b : Bool). cond b (Some value) (finite.get m other)) (other_key other key apart)

pub got_deleted : (m : Map) (key : Bytes) → finite.get (finite.remove m key) key ≡ None
got_deleted m key = get-remove nat_list_cmp_total m key key ∙ ap (λ (b : Bool). cond b None (finite.get m key)) (key_itself key)

pub got_deleted_other : (m : Map) (key other : Bytes) → other ≢ key → finite.get (finite.remove m key) other ≡ finite.get m other
got_deleted_other m key other apart = get-remove nat_list_cmp_total m key other ∙ ap (λ (b : Bool). cond b None (finite.get m other)) (other_key other key apart)
