-- Bytes that are compared eight at a time.
use Rattle.std.proofs.Common.{◌≡◌, ℕ, ◌+◌, ◌-◌, ◌≤◌, ◌<◌, Bool, List, ◌++◌, length, get_or, take, drop, ap, sym, subst, ◌∙◌, arith}
use Rattle.std.proofs.Math.Seq.{take-add}
use Rattle.std.proofs.lemmas.List.{take-append-drop, take_all, length-drop, get_or-drop}
use Rattle.byteorder.specs.Endian.{big_bytes, big_number}
use Rattle.lsm_codec.proofs.Numbers.{big_bytes-of_number}
use Rattle.lsm_merge.proofs.Sameness.{Tells}

abbrev AreBytes : List ℕ → Type 0
AreBytes a = (i : ℕ) → get_or a i 0 < 256

after : (a : List ℕ) (n : ℕ) → AreBytes a → AreBytes (drop n a)
after a n fit = λ i. subst (λ (k : ℕ). k < 256) (sym (get_or-drop n a i 0)) (fit (n + i))

eight : (a : List ℕ) (n : ℕ) → AreBytes a → n + 8 ≤ length a → big_bytes 8 (big_number 8 (drop n a)) ≡ take 8 (drop n a)
eight a n fit inside = big_bytes-of_number 8 (drop n a) (omega (arith, length-drop n a)) (after a n fit)

-- all that are left
pub all_left : (a : List ℕ) (n : ℕ) → take (length a - n) (drop n a) ≡ drop n a
all_left a n = take_all (length a - n) (drop n a) (omega (arith, length-drop n a))

-- eight more are the same
pub eight_more : (a b : List ℕ) (n : ℕ) → AreBytes a → AreBytes b → n + 8 ≤ length a → length a ≡ length b → big_number 8 (drop n a) ≡ big_number 8 (drop n b) → take n a ≡ take n b → take (n + 8) a ≡ take (n + 8) b
eight_more a b n fit_a fit_b inside long same so =
    take-add n 8 a
    ∙ ap (λ (l : List ℕ). l ++ take 8 (drop n a)) so
    ∙ ap (λ (l : List ℕ). take n b ++ l) (sym (eight a n fit_a inside) ∙ ap (big_bytes 8) same ∙ eight b n fit_b (omega arith))
    ∙ sym (take-add n 8 b)

-- the rest decides
pub rest_told : (a b : List ℕ) (n : ℕ) (r : Bool) → take n a ≡ take n b → Tells r (drop n a) (drop n b) → Tells r a b
rest_told a b n r so rest = (
  λ is. sym (take-append-drop n a) ∙ ap (λ (l : List ℕ). l ++ drop n a) so ∙ ap (λ (l : List ℕ). take n b ++ l) (rest.0 is) ∙ take-append-drop n b,
  λ same. rest.1 (ap (λ (l : List ℕ). drop n l) same),
)
