-- What versions weigh, with one put among them.
use Rattle.std.proofs.Common.{◌≡◌, ℕ, ◌+◌, ◌≤◌, List, [], ◌∷◌, length, refl, arith}
use Rattle.std.specs.Prelude.{sum_by}
use Rattle.std.specs.FinMap.Entries.{by_order}
use Rattle.std.specs.declared.cmp.Ordering.{Ordering}
use Rattle.std.specs.declared.cmp.Ordering.TheVariants.{Less, Equal, Greater}
use Rattle.std.proofs.lemmas.List.Sums.{sum_by-cons}
use Rattle.lsm_codec.specs.Versions.{Version, entry_order}
use Rattle.lsm_mem.specs.EntryOrder.{placed}

-- with one in its place they weigh no more than both
pub placed_one : (weight : Version → ℕ) (v : Version) (versions : List Version) → sum_by weight (placed v versions) ≤ weight v + sum_by weight versions
placed_one weight v [] = omega (arith, sum_by-cons weight v [])
placed_one weight v (w ∷ rest) = by (placed_one weight v rest) (entry_order v w)
  where
    by : sum_by weight (placed v rest) ≤ weight v + sum_by weight rest → (o : Ordering) → sum_by weight (by_order o (v ∷ w ∷ rest) (v ∷ rest) (w ∷ placed v rest)) ≤ weight v + sum_by weight (w ∷ rest)
    by le Less = omega (arith, sum_by-cons weight v (w ∷ rest))
    by le Equal = omega (arith, sum_by-cons weight v rest, sum_by-cons weight w rest)
    by le Greater = omega (arith, le, sum_by-cons weight w (placed v rest), sum_by-cons weight w rest)

-- as many as there are weigh one each
pub ones : (versions : List Version) → sum_by (λ (v : Version). 1) versions ≡ length versions
ones [] = refl
ones (v ∷ versions) = omega (arith, sum_by-cons (λ (w : Version). 1) v versions, ones versions)

-- there is one more at most
pub placed_few : (v : Version) (versions : List Version) → length (placed v versions) ≤ 1 + length versions
placed_few v versions = omega (arith, placed_one (λ w. 1) v versions, ones versions, ones (placed v versions))
