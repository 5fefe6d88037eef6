-- Sectors that lie side by side are copied at once.
use Rattle.std.proofs.Common.{◌≡◌, ◌≤◌, ℕ, zero, suc, ◌+◌, ◌*◌, List, ◌∷◌, ◌++◌, length, take, drop, replicate, refl, sym, ◌∙◌, ap, arith, take-take}
use Rattle.std.specs.List.{concat}
use Rattle.std.proofs.lemmas.List.{drop-append-le, drop-drop, drop-take, length-drop, take-append-drop, take-append-le}
use Rattle.lsm_device.specs.Areas.{area}
use Rattle.lsm_device.specs.Disk.{Disk, seen}
use Rattle.lsm_device.specs.History.{present}
use Rattle.lsm_device.specs.Runs.{pieces}
use Rattle.lsm_mapped.specs.Disks.{after_records, mapped_sectors}
use Rattle.lsm_mapped.specs.Records.{Record, writes_in}
use Rattle.lsm_mapped.proofs.Making.{unwritten}

split : (a b : ℕ) (xs : List ℕ) → take (a + b) xs ≡ take a xs ++ take b (drop a xs)
split a b xs =
    sym (take-append-drop a (take (a + b) xs))
    ∙ ap (λ (l : List ℕ). l ++ drop a (take (a + b) xs)) (take-take a (a + b) xs (omega arith))
    ∙ ap (λ (l : List ℕ). take a xs ++ l) (drop-take a b xs)

-- n sectors are their bytes
joined : (n : ℕ) (bytes : List ℕ) → concat (pieces n bytes) ≡ take (512 * n) bytes
joined zero bytes = let none : 0 ≡ 512 * zero = omega arith in ap (λ (k : ℕ). take k bytes) none
joined (suc n) bytes =
    let place : 512 + 512 * n ≡ 512 * suc n = omega arith in
    ap (λ (l : List ℕ). take 512 bytes ++ l) (joined n (drop 512 bytes)) ∙ sym (split 512 (512 * n) bytes) ∙ ap (λ (k : ℕ). take k bytes) place

firsts : (n count : ℕ) (bytes : List ℕ) → count ≤ n → take count (pieces n bytes) ≡ pieces count bytes
firsts n zero bytes within = refl
firsts zero (suc count) bytes within = absurd (omega (arith, within))
firsts (suc n) (suc count) bytes within = ap (λ (l : List (List ℕ)). take 512 bytes ∷ l) (firsts n count (drop 512 bytes) (omega (arith, within)))

some_of : (n at count : ℕ) (bytes : List ℕ) → at + count ≤ n → take count (drop at (pieces n bytes)) ≡ pieces count (drop (512 * at) bytes)
some_of n zero count bytes within = let none : 0 ≡ 512 * zero = omega arith in firsts n count bytes (omega (arith, within)) ∙ ap (λ (k : ℕ). pieces count (drop k bytes)) none
some_of zero (suc at) count bytes within = absurd (omega (arith, within))
some_of (suc n) (suc at) count bytes within =
    let place : 512 + 512 * at ≡ 512 * suc at = omega arith in
    some_of n at count (drop 512 bytes) (omega (arith, within)) ∙ ap (pieces count) (drop-drop (512 * at) 512 bytes ∙ ap (λ (k : ℕ). drop k bytes) place)

-- what the mapping has from a sector on is that of the disk, where no write is in the journal
pub run-made : (n at count : ℕ) (image out : List ℕ) (rs : List Record) (past : List Disk) → writes_in rs ≡ 0 → seen (present past) ≡ mapped_sectors n image → at + count ≤ n → 512 * at + 512 * count ≤ length image
    → out ≡ take (512 * count) (drop (512 * at) image) → out ≡ concat (area at count (seen (present (after_records rs past))))
unfolding mapped_sectors
run-made n at count image out rs past none shown below there is =
    let zeros : List ℕ = replicate (512 * n) 0 in
    let same : out ≡ take (512 * count) (drop (512 * at) (image ++ zeros)) =
    is ∙ sym (ap (take (512 * count)) (drop-append-le (512 * at) image zeros (omega (arith, there))) ∙ take-append-le (512 * count) (drop (512 * at) image) zeros (omega (arith, there, length-drop (512 * at) image))) in
    same ∙ sym (joined count (drop (512 * at) (image ++ zeros))) ∙ ap concat (sym (some_of n at count (image ++ zeros) below))
    ∙ ap (λ (sectors : List (List ℕ)). concat (area at count sectors)) (sym (unwritten rs past none ∙ shown))
