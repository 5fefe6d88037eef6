-- Extents sorted by their first blocks, which don't overlap.
use Rattle.std.specs.Prelude.{ℕ, ◌+◌, ◌<◌, ◌≤◌, List, [], ◌∷◌, take, drop, length}
use Rattle.lsm_extent.specs.declared.extent.Extent.{Extent}

-- the extents are one after the other between these two blocks, each with a block at least
abbrev pub IsLaid : ℕ → ℕ → List Extent → Type 0
IsLaid from to [] = from ≤ to
IsLaid from to (e ∷ es) = (from ≤ e.first) × (0 < e.blocks) × IsLaid (e.first + e.blocks) to es

-- At this place among the extents there is room for one with these blocks.
pub record IsGap (held : List Extent) (area place first blocks : ℕ) : Type 0 where
  pub within : place ≤ length held
  pub before : IsLaid 0 first (take place held)
  pub after : IsLaid (first + blocks) area (drop place held)

-- the first block after the last of the extents, or this one where there is none
abbrev pub end_of : ℕ → List Extent → ℕ
end_of from [] = from
end_of from (e ∷ es) = end_of (e.first + e.blocks) es

-- the first block of the first of the extents, or this one where there is none
abbrev pub start_of : ℕ → List Extent → ℕ
start_of to [] = to
start_of to (e ∷ es) = e.first
