-- Sectors of zeros.
use Rattle.std.proofs.Common.{◌≡◌, ◌≤◌, ℕ, zero, suc, ◌+◌, ◌-◌, ◌*◌, ◌/◌, List, ◌∷◌, length, length-take-le, take, drop, replicate, refl, sym, ◌∙◌, ap, arith}
use Rattle.std.proofs.Common.{Result, Ok, Err}
use Rattle.std.proofs.lemmas.Bool.{false≢true}
use Rattle.std.specs.Prelude.{IsErr, is_ok}
use Rattle.lsm_device.specs.Calls.{one_more, faults_after}
use Rattle.std.proofs.lemmas.List.{length-replicate}
use Rattle.lsm_codec.specs.Formats.{blank}
use Rattle.lsm_device.specs.Runs.{pieces}
use Rattle.lsm_device.proofs.Pieces.{pieces-take, count_of}

drop-zeros : (k m : ℕ) → drop k (replicate {A = ℕ} (k + m) 0) ≡ replicate m 0
drop-zeros zero m = let same : 0 + m ≡ m = omega arith in ap (λ (n : ℕ). replicate {A = ℕ} n 0) same
drop-zeros (suc k) m = let same : suc k + m ≡ suc (k + m) = omega arith in ap (λ (n : ℕ). drop (suc k) (replicate {A = ℕ} n 0)) same ∙ drop-zeros k m

take-zeros : (k m : ℕ) → take k (replicate {A = ℕ} (k + m) 0) ≡ replicate k 0
take-zeros zero m = refl
take-zeros (suc k) m = let same : suc k + m ≡ suc (k + m) = omega arith in ap (λ (n : ℕ). take (suc k) (replicate {A = ℕ} n 0)) same ∙ ap (λ (l : List ℕ). 0 ∷ l) (take-zeros k m)

-- zeros are cut into sectors of zeros
pub pieces-zeros : (n m : ℕ) → 512 * n ≤ m → pieces n (replicate {A = ℕ} m 0) ≡ replicate n blank
pieces-zeros zero m fits = refl
pieces-zeros (suc n) m fits =
    let split : m ≡ 512 + (m - 512) = omega (arith, fits) in
    ap (λ (k : ℕ). take 512 (replicate {A = ℕ} k 0) ∷ pieces n (drop 512 (replicate {A = ℕ} k 0))) split
    ∙ ap (λ (l : List ℕ). l ∷ pieces n (drop 512 (replicate {A = ℕ} (512 + (m - 512)) 0))) (take-zeros 512 (m - 512))
    ∙ ap (λ (l : List ℕ). blank ∷ pieces n l) (drop-zeros 512 (m - 512))
    ∙ ap (λ (l : List (List ℕ)). blank ∷ l) (pieces-zeros n (m - 512) (omega (arith, fits)))

take-blanks : (k m : ℕ) → take k (replicate (k + m) blank) ≡ replicate k blank
take-blanks zero m = refl
take-blanks (suc k) m = let same : suc k + m ≡ suc (k + m) = omega arith in ap (λ (n : ℕ). take (suc k) (replicate n blank)) same ∙ ap (λ (l : List (List ℕ)). blank ∷ l) (take-blanks k m)

drop-blanks : (k m : ℕ) → drop k (replicate (k + m) blank) ≡ replicate m blank
drop-blanks zero m = let same : 0 + m ≡ m = omega arith in ap (λ (n : ℕ). replicate n blank) same
drop-blanks (suc k) m = let same : suc k + m ≡ suc (k + m) = omega arith in ap (λ (n : ℕ). drop (suc k) (replicate n blank)) same ∙ drop-blanks k m

part-blanks : (count at n : ℕ) → at + n ≤ count → take n (drop at (replicate count blank)) ≡ replicate n blank
part-blanks count at n fits =
    let split : count ≡ at + (count - at) = omega (arith, fits) in
    let again : count - at ≡ n + (count - at - n) = omega (arith, fits) in
    ap (λ (k : ℕ). take n (drop at (replicate k blank))) split
    ∙ ap (take n) (drop-blanks at (count - at))
    ∙ ap (λ (k : ℕ). take n (replicate k blank)) again
    ∙ take-blanks n (count - at - n)

-- what one call writes
pub record IsZeros (count at n : ℕ) (bytes : List ℕ) : Type 0 where
  pub some : length bytes ≡ 512 * n
  pub is : pieces (length bytes / 512) bytes ≡ take n (drop at (replicate count blank))

pub zeros_of : (count at n : ℕ) (zeros bytes : List ℕ) → zeros ≡ replicate 65536 0 → n ≤ 128 → at + n ≤ count → bytes ≡ take (512 * n) zeros → IsZeros count at n bytes
zeros_of count at n zeros bytes all few fits is =
    let same : bytes ≡ take (512 * n) (replicate {A = ℕ} 65536 0) = is ∙ ap (take (512 * n)) all in
    let long : length bytes ≡ 512 * n = ap length same ∙ length-take-le (512 * n) (replicate {A = ℕ} 65536 0) (omega (arith, few, length-replicate {A = ℕ} 65536 0)) in
    record {
      some = long;
      is = ap (λ (k : ℕ). pieces k bytes) (count_of (length bytes) n long)
          ∙ ap (pieces n) same
          ∙ pieces-take n (512 * n) (replicate {A = ℕ} 65536 0) (omega arith)
          ∙ pieces-zeros n 65536 (omega (arith, few))
          ∙ sym (part-blanks count at n fits);
    }

-- a call that failed counts as a fault
pub after_err : {T E : Type 0} (r : Result T E) (old new : ℕ) → IsErr r → new ≡ one_more old → new ≡ faults_after (is_ok r) old
after_err (Ok x) old new err is = absurd (false≢true err)
after_err (Err e) old new err is = is
