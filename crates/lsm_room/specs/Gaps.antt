-- Gaps of a data area that are filled on trial.
use Rattle.std.specs.Prelude.{ℕ, ◌≡◌, ◌+◌, ◌-◌, ◌<◌, ◌≤◌, Bool, nat_le, List, filter, Some, slice_get, slice_set}
use Prim.Native.Nat.{min}
use Rattle.lsm_extent.specs.declared.extent.Extent.{Extent}
use Rattle.lsm_extent.specs.Area.{Area}
use Rattle.lsm_extent.specs.Gaps.{gaps}

-- whether a gap has `blocks` blocks
abbrev pub has_blocks : ℕ → Extent → Bool
has_blocks blocks gap = nat_le blocks gap.blocks

-- the gaps of an area that have a block, in order
abbrev pub free_gaps : Area → List Extent
free_gaps area = filter (has_blocks 1) (gaps area)

-- a gap without its first blocks; no block's number is higher than fits 32 bits
abbrev pub shortened : ℕ → Extent → Extent
shortened blocks gap = record { first = min (gap.first + blocks) 4294967295; blocks = gap.blocks - blocks }

-- No gap has `blocks` blocks.
abbrev pub HasNone : ℕ → List Extent → Type 0
HasNone blocks free = (k : ℕ) (other : Extent) → slice_get free k ≡ Some other → other.blocks < blocks

-- The lowest gap that has `blocks` blocks loses its first ones, and the others stay.
pub record TakesLowest (blocks : ℕ) (old new : List Extent) (first : ℕ) : Type 0 where
  pub place : ℕ
  pub gap : Extent
  pub at : slice_get old place ≡ Some gap
  pub fits : blocks ≤ gap.blocks
  pub lowest : (k : ℕ) (other : Extent) → k < place → slice_get old k ≡ Some other → other.blocks < blocks
  pub first_is : first ≡ gap.first
  pub left : new ≡ slice_set old place (shortened blocks gap)
