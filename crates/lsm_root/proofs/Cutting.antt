-- A text is cut into sectors, and joined again.
use Rattle.std.proofs.Common.{◌≡◌, ℕ, zero, suc, ◌*◌, List, [], ◌++◌, length, take, drop, refl, sym, ◌∙◌, ap, arith}
use Rattle.std.proofs.lemmas.List.{length-drop, take-append-drop, nil_from_length}
use Rattle.lsm_root.specs.Pieces.{pieces, joined}
pub use Rattle.lsm_device.proofs.Pieces.{length-pieces}
use Rattle.std.specs.List.{concat}
use Rattle.std.proofs.Common.{◌∷◌}

pub joined-pieces : (n : ℕ) (text : List ℕ) → length text ≡ 512 * n → joined (pieces n text) ≡ text
joined-pieces zero text is = sym (nil_from_length text (omega (arith, is)))
joined-pieces (suc n) text is = ap (λ (l : List ℕ). take 512 text ++ l) (joined-pieces n (drop 512 text) (omega (arith, length-drop 512 text, is))) ∙ take-append-drop 512 text

pub joined-concat : (sectors : List (List ℕ)) → concat sectors ≡ joined sectors
joined-concat [] = refl
joined-concat (s ∷ rest) = ap (λ (l : List ℕ). s ++ l) (joined-concat rest)
