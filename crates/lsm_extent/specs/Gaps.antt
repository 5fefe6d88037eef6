-- The gaps of a data area, and what surely finds room in them.
use Rattle.std.specs.Prelude.{ℕ, ◌+◌, ◌-◌, ◌<◌, ◌≤◌, Bool, ltb, ◌&&◌, List, [], ◌∷◌, sum}
use Rattle.std.specs.List.{AllByRecursion}
use Rattle.lsm_extent.specs.declared.extent.Extent.{Extent}
use Rattle.lsm_extent.specs.Area.{Area, IsFreeRun, IsLowestFit, HasNoFit, handed_out}

-- the gaps between two blocks: the one before each of the extents there, and the one after the last
abbrev pub gaps_between : ℕ → ℕ → List Extent → List Extent
gaps_between from to [] = record { first = from; blocks = to - from } ∷ []
gaps_between from to (e ∷ es) = record { first = from; blocks = e.first - from } ∷ gaps_between (e.first + e.blocks) to es

-- the gaps of an area, one more than its extents; a gap between neighbours has no blocks
abbrev pub gaps : Area → List Extent
gaps area = gaps_between 0 area.blocks area.held

-- at how many blocks of these gaps a run of `blocks` blocks may begin
abbrev pub starts : ℕ → List Extent → ℕ
starts blocks [] = 0
starts blocks (gap ∷ rest) = ((gap.blocks + 1) - blocks) + starts blocks rest

-- the longest gap has `blocks` blocks
pub record IsLongestGap (area : Area) (blocks : ℕ) : Type 0 where
  pub fits : 0 < blocks → (first : ℕ) × IsFreeRun area first blocks
  pub longest : HasNoFit area (blocks + 1)

-- Runs of these sizes find room one after the other, each at the lowest fit.
abbrev pub FindRoom : Area → List ℕ → Type 0
FindRoom area [] = Unit {0}
FindRoom area (n ∷ rest) = (start : ℕ) × IsLowestFit area n start × FindRoom (handed_out (record { first = start; blocks = n }) area) rest

-- Runs of at most `largest` blocks each, and `total` in all, find room, whatever their sizes and their order.
pub record SurelyFit (area : Area) (total largest : ℕ) : Type 0 where
  pub find : (sizes : List ℕ) → AllByRecursion (λ n. (0 < n) × (n ≤ largest)) sizes → sum sizes ≤ total → FindRoom area sizes

-- whether a run of the largest size fits, and `total` is less than `largest` plus the number of blocks at which it may begin
abbrev pub has_sure_room : Area → ℕ → ℕ → Bool
has_sure_room area total largest = ltb 0 (starts largest (gaps area)) && ltb total (starts largest (gaps area) + largest)
