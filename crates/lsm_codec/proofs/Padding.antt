-- A text that zeros fill up to whole sectors.
use Rattle.std.proofs.Common.{◌≡◌, ℕ, ◌-◌, ◌*◌, ◌%◌, List, ◌++◌, length, Some, None, sym, ap, subst, ◌∙◌, arith}
use Rattle.std.specs.Int.{div_ceil}
use Rattle.std.proofs.lemmas.List.{length-append, length-replicate}
use Rattle.std.proofs.lemmas.Option.{some_pair_parts}
use Rattle.lsm_codec.specs.Keys.{IsBytes}
use Rattle.lsm_codec.specs.Spelling.{padding, in_sectors, IsDecoded}
use Rattle.lsm_codec.proofs.Readers.{Reads, Reader}

-- the bytes of whole sectors
pub length-in_sectors : (text : List ℕ) → length (in_sectors text) ≡ 512 * div_ceil (length text) 512
length-in_sectors text = omega (arith, length-append text (padding (length text)), length-replicate {A = ℕ} ((512 - length text % 512) % 512) 0)

-- a text followed by its padding is read
module _ {A : Type 0} {read : Reader A} {Fields Fits : A → Type 0} {spell : A → List ℕ} (one : Reads read Fields spell) (pad : ℕ → List ℕ) (narrow : (x : A) → Fits x → Fields x) (bytes : List ℕ) (fits : IsBytes bytes) where
  reads_again : (y : A) → Fits y → bytes ≡ spell y ++ pad (length (spell y)) → read bytes ≡ Some (y, pad (length (spell y)))
  reads_again y fy e = ap read e ∙ one.again y (pad (length (spell y))) (narrow y fy)

  same_value : (x y : A) (rest : List ℕ) → read bytes ≡ Some (x, rest) → Fits y → bytes ≡ spell y ++ pad (length (spell y)) → (x ≡ y) × (rest ≡ pad (length (spell y)))
  same_value x y rest r fy e = some_pair_parts x y rest (pad (length (spell y))) (sym r ∙ reads_again y fy e)

  -- the bytes before the rest
  pub used : (x : A) (rest : List ℕ) → read bytes ≡ Some (x, rest) → length bytes - length rest ≡ length (spell x)
  used x rest r = let law = one.found bytes (x, rest) fits r in omega (arith, ap length law.1, length-append (spell x) rest)

  pub read_up : (x : A) (rest : List ℕ) → read bytes ≡ Some (x, rest) → rest ≡ pad (length bytes - length rest) → Fits x → IsDecoded Fits (λ z. spell z ++ pad (length (spell z))) bytes (Some x)
  read_up x rest r zeros fx = record {
    found = (fx, (one.found bytes (x, rest) fits r).1 ∙ ap (λ (t : List ℕ). spell x ++ t) (zeros ∙ ap pad (used x rest r)));
    only = λ y fy e. ap (λ (z : A). Some z) (same_value x y rest r fy e).0;
  }

  pub refused_up : (x : A) (rest : List ℕ) → read bytes ≡ Some (x, rest) → ((rest ≡ pad (length bytes - length rest)) × Fits x → ⊥) → IsDecoded Fits (λ z. spell z ++ pad (length (spell z))) bytes None
  refused_up x rest r not = record {
    found = tt;
    only = λ y fy e.
        let same = same_value x y rest r fy e in
        absurd (not (same.1 ∙ ap (λ (z : A). pad (length (spell z))) (sym same.0) ∙ ap pad (sym (used x rest r)), subst Fits (sym same.0) fy));
  }

  pub unread_up : read bytes ≡ None → IsDecoded Fits (λ z. spell z ++ pad (length (spell z))) bytes None
  unread_up r = record { found = tt; only = λ y fy e. absurd (cc (r, reads_again y fy e)) }

-- so it is where zeros fill up the last sector
module _ {A : Type 0} {read : Reader A} {Fields Fits : A → Type 0} {spell : A → List ℕ} (one : Reads read Fields spell) (narrow : (x : A) → Fits x → Fields x) (bytes : List ℕ) (fits : IsBytes bytes) where
  pub padded_read : (x : A) (rest : List ℕ) → read bytes ≡ Some (x, rest) → rest ≡ padding (length bytes - length rest) → Fits x → IsDecoded Fits (λ z. in_sectors (spell z)) bytes (Some x)
  padded_read = read_up one padding narrow bytes fits

  pub padded_refused : (x : A) (rest : List ℕ) → read bytes ≡ Some (x, rest) → ((rest ≡ padding (length bytes - length rest)) × Fits x → ⊥) → IsDecoded Fits (λ z. in_sectors (spell z)) bytes None
  padded_refused = refused_up one padding narrow bytes fits

  pub padded_unread : read bytes ≡ None → IsDecoded Fits (λ z. in_sectors (spell z)) bytes None
  padded_unread = unread_up one padding narrow bytes fits
