-- The versions of batches one after another.
use Rattle.std.proofs.Common.{◌≡◌, ℕ, ◌+◌, List, [], ◌∷◌, ◌++◌, length, ap, ◌∙◌, arith}
use Rattle.lsm_codec.specs.Map.{Map, Operation, apply_all}
use Rattle.lsm_codec.specs.Versions.{Version}
use Rattle.lsm_mem.specs.Versions.{NumberedBelow, map_of}
use Rattle.lsm_mem.specs.EntryOrder.{with_batch, with_batches}
use Rattle.lsm_mem.proofs.Batches.{at_most_with_batch, at_most_from_below, below_from_at_most}
use Rattle.lsm_mem.proofs.Maps.{map_of-with_batch}

-- some batches, and more after them
pub with_batches-append : (n : ℕ) (first more : List (List Operation)) (versions : List Version) → with_batches n (first ++ more) versions ≡ with_batches (n + length first) more (with_batches n first versions)
with_batches-append n [] more versions = ap (λ (k : ℕ). with_batches k more versions) (omega arith)
with_batches-append n (batch ∷ rest) more versions =
    with_batches-append (n + 1) rest more (with_batch (n + 1) batch versions)
    ∙ ap (λ (k : ℕ). with_batches k more (with_batches (n + 1) rest (with_batch (n + 1) batch versions))) (omega arith)

-- one batch more
pub below_with_batch : (n : ℕ) (batch : List Operation) (versions : List Version) → NumberedBelow (n + 1) versions → NumberedBelow (n + 1 + 1) (with_batch (n + 1) batch versions)
below_with_batch n batch versions below =
    below_from_at_most (n + 1) (with_batch (n + 1) batch versions) (at_most_with_batch (n + 1) batch versions (at_most_from_below (n + 1) versions below))

-- The map after all of them is the map before with the batches applied.
pub map_of-with_batches : (n : ℕ) (batches : List (List Operation)) (versions : List Version) → NumberedBelow (n + 1) versions
    → map_of (with_batches n batches versions) (n + length batches) ≡ apply_all (map_of versions n) batches
map_of-with_batches n [] versions below = ap (map_of versions) (omega arith)
map_of-with_batches n (batch ∷ rest) versions below =
    ap (map_of (with_batches (n + 1) rest (with_batch (n + 1) batch versions))) (omega arith)
    ∙ map_of-with_batches (n + 1) rest (with_batch (n + 1) batch versions) (below_with_batch n batch versions below)
    ∙ ap (λ (m : Map). apply_all m rest) (map_of-with_batch n batch versions below)
