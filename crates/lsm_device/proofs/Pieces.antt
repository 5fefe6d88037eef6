-- Bytes, cut into sectors and joined again.
use Rattle.std.proofs.Common.{◌≡◌, ◌<◌, ◌≤◌, ℕ, zero, suc, ◌+◌, ◌-◌, ◌*◌, ◌/◌, List, [], ◌∷◌, ◌++◌, length, length-append, get_or, take, drop, Some, refl, sym, ◌∙◌, ap, arith, append-nil, add-one, le_refl, take-take, length-take-le}
use Rattle.std.specs.List.{concat, slice_get}
use Rattle.std.proofs.lemmas.List.{drop-drop, drop-take, length-drop, take_all, take_more, take_at, drop_at, get_or-drop}
use Rattle.std.proofs.lemmas.List.Folds.{concat-append}
use Rattle.std.proofs.lemmas.Slice.{take-put_mid, take-put_mid_below}
use Rattle.std.proofs.lemmas.Option.{slice_get_within, get_or_from_slice_get}
use borrow.Rule.Slice.PartMut.{put_mid}
use Rattle.lsm_device.specs.Runs.{pieces}

pub length-pieces : (n : ℕ) (bytes : List ℕ) → length (pieces n bytes) ≡ n
length-pieces zero bytes = refl
length-pieces (suc n) bytes = ap suc (length-pieces n (drop 512 bytes))

get_or-pieces : (n : ℕ) (bytes : List ℕ) (i : ℕ) → i < n → get_or (pieces n bytes) i [] ≡ take 512 (drop (512 * i) bytes)
get_or-pieces zero bytes i lt = absurd (omega arith)
get_or-pieces (suc n) bytes zero lt = let same : 0 ≡ 512 * zero = omega arith in ap (λ (k : ℕ). take 512 (drop k bytes)) same
get_or-pieces (suc n) bytes (suc i) lt =
    let place : 512 + 512 * i ≡ 512 * suc i = omega arith in
    get_or-pieces n (drop 512 bytes) i (omega arith) ∙ ap (λ (l : List ℕ). take 512 l) (drop-drop (512 * i) 512 bytes ∙ ap (λ (k : ℕ). drop k bytes) place)

pub piece_at : (n : ℕ) (bytes : List ℕ) (i : ℕ) (sector : List ℕ) → i < n → sector ≡ take 512 (drop (512 * i) bytes) → (i < length (pieces n bytes)) × (sector ≡ get_or (pieces n bytes) i [])
piece_at n bytes i sector lt is = (omega (arith, lt, length-pieces n bytes), is ∙ sym (get_or-pieces n bytes i lt))

-- how many sectors whole ones are
pub count_of : (length count : ℕ) → length ≡ 512 * count → length / 512 ≡ count
count_of length count is = omega (arith, is)

take_one_more : (sectors : List (List ℕ)) (at i : ℕ) (bytes : List ℕ) → slice_get sectors (at + i) ≡ Some bytes → take (i + 1) (drop at sectors) ≡ take i (drop at sectors) ++ bytes ∷ []
take_one_more sectors at i bytes is =
    let within = slice_get_within sectors (at + i) bytes is in
    let room : i < length (drop at sectors) = rw length-drop (omega arith) in
    let last : get_or (drop at sectors) i bytes ≡ bytes = get_or-drop at sectors i bytes ∙ get_or_from_slice_get sectors (at + i) bytes bytes is in
    take_more (drop at sectors) i bytes room ∙ ap (λ (b : List ℕ). take i (drop at sectors) ++ b ∷ []) last

-- a sector more is read into its place
pub one_more_sector : (sectors : List (List ℕ)) (at i n : ℕ) (out bytes : List ℕ) (k : ℕ) →
    i < n → length out ≡ 512 * n → length bytes ≡ 512 → slice_get sectors (at + i) ≡ Some bytes → take (512 * i) out ≡ concat (take i (drop at sectors)) →
    take (512 * (i + 1)) (put_mid (512 * i) k out bytes) ≡ concat (take (i + 1) (drop at sectors))
one_more_sector sectors at i n out bytes k below long whole is so_far =
    let size : 512 * (i + 1) ≡ 512 * i + length bytes = omega (arith, whole) in
    let room : 512 * i ≤ length out = omega (arith, long, below) in
    take-put_mid (512 * i) k out bytes (512 * (i + 1)) size room
    ∙ ap (λ (l : List ℕ). l ++ bytes) so_far
    ∙ sym (ap concat (take_one_more sectors at i bytes is) ∙ concat-append (take i (drop at sectors)) (bytes ∷ []) ∙ ap (λ (l : List ℕ). concat (take i (drop at sectors)) ++ l) (append-nil bytes))

-- all of them are
pub all_sectors : (sectors : List (List ℕ)) (at i n count : ℕ) (out : List ℕ) → n ≤ i → i ≤ n → n ≡ count → length out ≡ 512 * n → take (512 * i) out ≡ concat (take i (drop at sectors)) → out ≡ concat (take count (drop at sectors))
all_sectors sectors at i n count out low high is long so_far =
    let all : i ≡ count = omega (arith, low, high, is) in
    let fits : length out ≤ 512 * i = omega (arith, long, low) in
    sym (take_all (512 * i) out fits) ∙ so_far ∙ ap (λ (m : ℕ). concat (take m (drop at sectors))) all

pub length-put_mid_within : (i n : ℕ) (out bytes : List ℕ) (k : ℕ) → k ≡ 512 → i < n → length out ≡ 512 * n → length bytes ≡ 512 → length (put_mid (512 * i) k out bytes) ≡ 512 * n
length-put_mid_within i n out bytes k part below long whole =
    let room : 512 * i ≤ length out = omega (arith, long, below) in
    let front = length-take-le (512 * i) out room in
    let rest = drop k (drop (512 * i) out) in
    let size : length rest + 512 ≡ length out - 512 * i = omega (arith, length-drop k (drop (512 * i) out), length-drop (512 * i) out, part, long, below) in
    omega (arith, length-append (take (512 * i) out) (bytes ++ rest), length-append bytes rest, front, size, whole, long, room, below)

-- the first bytes have the first sectors
pub pieces-take : (n m : ℕ) (bytes : List ℕ) → 512 * n ≤ m → pieces n (take m bytes) ≡ pieces n bytes
pieces-take zero m bytes fits = refl
pieces-take (suc n) m bytes fits =
    let split : m ≡ 512 + (m - 512) = omega (arith, fits) in
    ap (λ (l : List ℕ). l ∷ pieces n (drop 512 (take m bytes))) (take-take 512 m bytes (omega (arith, fits)))
    ∙ ap (λ (l : List ℕ). take 512 bytes ∷ pieces n l) (ap (λ (j : ℕ). drop 512 (take j bytes)) split ∙ drop-take 512 (m - 512) bytes)
    ∙ ap (λ (l : List (List ℕ)). take 512 bytes ∷ l) (pieces-take n (m - 512) (drop 512 bytes) (omega (arith, fits)))

-- one sector more
pub pieces-more : (i : ℕ) (bytes : List ℕ) → pieces (i + 1) bytes ≡ pieces i bytes ++ take 512 (drop (512 * i) bytes) ∷ []
pieces-more zero bytes = let same : 0 ≡ 512 * zero = omega arith in ap (λ (k : ℕ). take 512 (drop k bytes) ∷ []) same
pieces-more (suc i) bytes =
    let next : 512 + 512 * i ≡ 512 * suc i = omega arith in
    ap (λ (n : ℕ). pieces n bytes) (add-one (suc i))
    ∙ ap (λ (n : ℕ). take 512 bytes ∷ pieces n (drop 512 bytes)) (sym (add-one i))
    ∙ ap (λ (l : List (List ℕ)). take 512 bytes ∷ l) (pieces-more i (drop 512 bytes))
    ∙ ap (λ (l : List ℕ). take 512 bytes ∷ (pieces i (drop 512 bytes) ++ take 512 l ∷ [])) (drop-drop (512 * i) 512 bytes ∙ ap (λ (k : ℕ). drop k bytes) next)

-- a sector more is put after the others
pub one_more_laid : (i n : ℕ) (run bytes : List ℕ) (k : ℕ) (laid : List (List ℕ)) → i < n → length run ≡ 512 * n → length bytes ≡ 512 → pieces i run ≡ laid → pieces (i + 1) (put_mid (512 * i) k run bytes) ≡ laid ++ bytes ∷ []
one_more_laid i n run bytes k laid below long whole so_far =
    let room : 512 * i ≤ length run = omega (arith, long, below) in
    let new = put_mid (512 * i) k run bytes in
    let front : take (512 * i) new ≡ take (512 * i) run = take-put_mid_below (512 * i) k run bytes (512 * i) (le_refl (512 * i)) room in
    let here : take 512 (drop (512 * i) new) ≡ bytes =
    ap (take 512) (drop_at (take (512 * i) run) (bytes ++ drop k (drop (512 * i) run)) (512 * i) (length-take-le (512 * i) run room)) ∙ take_at bytes (drop k (drop (512 * i) run)) 512 whole in
    pieces-more i new
    ∙ ap (λ (l : List (List ℕ)). l ++ take 512 (drop (512 * i) new) ∷ []) (sym (pieces-take i (512 * i) new (le_refl (512 * i))) ∙ ap (pieces i) front ∙ pieces-take i (512 * i) run (le_refl (512 * i)) ∙ so_far)
    ∙ ap (λ (l : List ℕ). laid ++ l ∷ []) here
