-- What the outputs of a merge take, and that they find room.
use Rattle.std.specs.Prelude.{◌≡◌, ℕ, ◌≤◌, Bool, false, List, length}
use Rattle.std.specs.List.{AllByRecursion}
use Rattle.lsm_extent.specs.Area.{Area}
use Rattle.lsm_table.specs.Division.{TableBlocks, IsTable}
use Rattle.lsm_table.specs.Extents.{extent_size}
use Rattle.lsm_table.specs.BlockCounts.{extent_blocks}
use Rattle.lsm_codec.specs.Keys.{Bytes}
use Rattle.lsm_merge.specs.Divisions.{AreTablesAt}
use Rattle.lsm_merge.specs.Inputs.{IsCuts}
use Rattle.lsm_merge.specs.Keeping.{keep}
use Rattle.lsm_levels.specs.Tables.{Table, versions_of}
use Rattle.lsm_levels.specs.Levels.{Levels}
use Rattle.lsm_levels.specs.Pick.{Job, inputs, is_bottom}
use Rattle.lsm_levels.specs.Stored.{IsStored}
use Rattle.lsm_jobs.specs.SureRoom.{HaveSureRoom}

-- A table is in the sectors of a device, whose data area begins with a sector, and is divided into blocks as the store divides tables.
pub record StandsDivided (sectors : List (List ℕ)) (from : ℕ) (t : Table) : Type 0 where
  pub stored : IsStored sectors from t
  pub divided : IsTable stored.blocks

-- Counts at which a merge keeps the map: one alone if no snapshot is live.
pub record AreCuts (live : Bool) (cuts : List ℕ) : Type 0 where
  pub are : IsCuts cuts
  pub one : live ≡ false → length cuts ≡ 1

-- Images are those of what a merge keeps of its inputs, divided at keys.
pub record AreImages (levels : Levels) (job : Job) (keys : List Bytes) (cuts : List ℕ) (images : List TableBlocks) : Type 0 where
  pub tables : AreTablesAt keys (keep cuts (is_bottom levels job) (versions_of (inputs job))) images
  pub each : AllByRecursion IsTable images

-- Each of these images has at most `largest` blocks, and all together at most `total`.
pub record TakeAtMost (total largest : ℕ) (images : List TableBlocks) : Type 0 where
  pub each : AllByRecursion (λ image. extent_size image ≤ largest) images
  pub all : extent_blocks images ≤ total

-- That holds of the images that a merge makes, whatever entries its inputs have.
abbrev pub MakesAtMost : Levels → Bool → Job → List Bytes → ℕ → ℕ → Type 0
MakesAtMost levels live job keys total largest = (sectors : List (List ℕ)) (from : ℕ) (cuts : List ℕ) (images : List TableBlocks)
    → AllByRecursion (StandsDivided sectors from) (inputs job) → AreCuts live cuts → AreImages levels job keys cuts images → TakeAtMost total largest images

-- They find room in an area, each at the lowest fit.
abbrev pub FindsRoom : Area → Levels → Bool → Job → List Bytes → Type 0
FindsRoom area levels live job keys = (sectors : List (List ℕ)) (from : ℕ) (cuts : List ℕ) (images : List TableBlocks)
    → AllByRecursion (StandsDivided sectors from) (inputs job) → AreCuts live cuts → AreImages levels job keys cuts images → HaveSureRoom area images
