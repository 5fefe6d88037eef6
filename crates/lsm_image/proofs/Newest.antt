-- What a read gives: the newest write of a sector.
use Rattle.std.proofs.Common.{◌≡◌, ◌<◌, ℕ, zero, suc, Bool, ◌==◌, All, List, [], ◌∷◌, length, set, if◌then◌else◌, Option, Some, slice_get, refl, sym, ◌∙◌, ap, arith}
use Rattle.std.proofs.Math.Dec.{eqb-suc-zero, eqb-zero-suc, eqb-suc-suc}
use Rattle.std.proofs.lemmas.List.{length-set}
use Rattle.std.proofs.lemmas.List.Elements.{All-head, All-tail}
use Rattle.lsm_device.specs.Disk.{Write, IsWrite, written}
use Rattle.lsm_image.specs.Laid.{newest}

-- a sector that was written has what was written, and each other one what it had
slice_get-set : (sectors : List (List ℕ)) (i at : ℕ) (bytes : List ℕ) → i < length sectors → slice_get (set sectors i bytes) at ≡ (if i == at then Some bytes else slice_get sectors at)
slice_get-set [] i at bytes within = absurd (omega (arith, within))
slice_get-set (s ∷ sectors) zero zero bytes within = refl
slice_get-set (s ∷ sectors) zero (suc at) bytes within = rw (eqb-zero-suc at) refl
slice_get-set (s ∷ sectors) (suc i) zero bytes within = rw (eqb-suc-zero i) refl
slice_get-set (s ∷ sectors) (suc i) (suc at) bytes within = slice_get-set sectors i at bytes (omega (arith, within)) ∙ ap (λ (b : Bool). if b then Some bytes else slice_get sectors at) (sym (eqb-suc-suc i at))

pub newest_is_read : (n : ℕ) (sectors : List (List ℕ)) (ws : List Write) (at : ℕ) → length sectors ≡ n → All (IsWrite n) ws → slice_get (written sectors ws) at ≡ newest (slice_get sectors at) ws at
newest_is_read n sectors [] at long writes = refl
newest_is_read n sectors (w ∷ ws) at long writes =
    let w_in = (All-head (IsWrite n) w ws writes).in_range in
    newest_is_read n (set sectors w.at w.bytes) ws at (length-set sectors w.at w.bytes ∙ long) (All-tail (IsWrite n) w ws writes)
    ∙ ap (λ (before : Option (List ℕ)). newest before ws at) (slice_get-set sectors w.at at w.bytes (omega (arith, w_in, long)))
