-- Images that surely find room.
use Rattle.std.specs.Prelude.{ℕ, ◌≤◌, List, Option}
use Rattle.std.specs.List.{AllByRecursion}
use Rattle.lsm_device.specs.declared.refusal.Refusal.TheVariants.{NoSpace}
use Rattle.lsm_extent.specs.Area.{Area}
use Rattle.lsm_extent.specs.Gaps.{SurelyFit}
use Rattle.lsm_table.specs.Division.{TableBlocks}
use Rattle.lsm_table.specs.Extents.{extent_size}
use Rattle.lsm_table.specs.BlockCounts.{extent_blocks}
use Rattle.lsm_merge.specs.Inputs.{MergeInput}
use Rattle.lsm_jobs.specs.Slots.{Slot}
use Rattle.lsm_jobs.specs.Placing.{FindNoRoom}
use Rattle.lsm_jobs.specs.Refusing.{RefusesResult}

-- The extents of images have at most `largest` blocks each and `total` blocks in all, which surely fit.
pub record HaveSureRoom (area : Area) (images : List TableBlocks) : Type 0 where
  pub total : ℕ
  pub largest : ℕ
  pub fit : SurelyFit area total largest
  pub each : AllByRecursion (λ image. extent_size image ≤ largest) images
  pub all : extent_blocks images ≤ total

-- Images that have sure room are all placed, so that no result of them is refused for lack of room.
pub record SureRoomLaw : Type 0 where
  pub placed : (area : Area) (images : List TableBlocks) → HaveSureRoom area images → FindNoRoom area images → ⊥
  pub accepted : (next_table : ℕ) (input : MergeInput) (images : List TableBlocks) (area : Area) (held : Option Slot) → HaveSureRoom area images → RefusesResult next_table input images area held NoSpace → ⊥
