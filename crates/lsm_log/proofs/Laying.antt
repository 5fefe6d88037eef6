-- The sectors of a batch, one after the other.
use Rattle.std.proofs.Common.{◌≡◌, ◌<◌, ◌≤◌, ℕ, ◌+◌, ◌*◌, ◌/◌, ◌%◌, List, [], ◌∷◌, ◌++◌, length, length-take-le, get_or, take, drop, sym, ◌∙◌, ap, arith}
use Rattle.std.proofs.lemmas.List.{length-drop, get_or-drop, take_more}
use borrow.Rule.Slice.PartMut.{mid_of}
use Rattle.lsm_device.specs.Runs.{pieces}
use Rattle.lsm_device.proofs.Pieces.{pieces-take, count_of}

-- one sector more of those from a place on
pub take_next : (sectors : List (List ℕ)) (from i : ℕ) (bytes : List ℕ) → from + i < length sectors → bytes ≡ get_or sectors (from + i) []
    → take (i + 1) (drop from sectors) ≡ take i (drop from sectors) ++ bytes ∷ []
take_next sectors from i bytes lt is =
    take_more (drop from sectors) i [] (omega (arith, length-drop from sectors))
    ∙ ap (λ (b : List ℕ). take i (drop from sectors) ++ b ∷ []) (get_or-drop from sectors i [] ∙ sym is)

-- The bytes that are written by one call: those of the sectors that were put there.
pub record IsRunOf (n : ℕ) (bytes : List ℕ) (laid : List (List ℕ)) : Type 0 where
  pub count : length bytes / 512 ≡ n
  pub some : 512 * n ≡ length bytes
  pub whole : length bytes % 512 ≡ 0
  pub pieces : pieces (length bytes / 512) bytes ≡ laid

pub run_of : (count size : ℕ) (run bytes : List ℕ) (laid : List (List ℕ)) → size ≡ 512 * count → 512 * count ≤ length run → bytes ≡ take size run → pieces count run ≡ laid → IsRunOf count bytes laid
run_of count size run bytes laid many fits is laid_is =
    let all : bytes ≡ take (512 * count) run = is ∙ ap (λ (n : ℕ). take n run) many in
    let long : length bytes ≡ 512 * count = ap length all ∙ length-take-le (512 * count) run fits in
    let counted : length bytes / 512 ≡ count = count_of (length bytes) count long in
    record {
      count = counted;
      some = sym long;
      whole = omega (arith, long);
      pieces = ap (λ (n : ℕ). pieces n bytes) counted ∙ ap (pieces count) all ∙ pieces-take count (512 * count) run (omega arith) ∙ laid_is;
    }

-- the place of a sector has its size
pub length_place : (i k : ℕ) (run : List ℕ) → k ≡ 512 → i < 16 → length run ≡ 8192 → length (mid_of (512 * i) k run) ≡ 512
length_place i k run part below whole = length-take-le k (drop (512 * i) run) (omega (arith, length-drop (512 * i) run, part, below, whole)) ∙ part
