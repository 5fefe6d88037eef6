-- The outputs of a job, and the blocks that they are written as.
use Rattle.std.specs.Prelude.{◌≡◌, ℕ, ◌+◌, ◌*◌, ◌-◌, ◌≤◌, ◌<◌, ◌^◌, ltb, List, [], ◌∷◌, length, take, drop, Option, Some, None, if◌then◌else◌}
use Rattle.std.specs.List.{flat_map}
use Rattle.lsm_device.specs.Disk.{Write}
use Rattle.lsm_device.specs.Runs.{run_at}
pub use Rattle.lsm_device.specs.Runs.{pieces as in_sectors}
use Rattle.lsm_table.specs.Division as division
use Rattle.lsm_table.specs.Division.{TableBlocks, IsTable}
use Rattle.lsm_table.specs.Extents.{extent_in_blocks, extent_size}
use Rattle.lsm_merge.specs.Divisions.{AreTables}
use Rattle.lsm_merge.specs.Inputs.{MergeInput, kept_of}
use Rattle.lsm_levels.specs.Tables.{Table, table_of}

-- A table is that of an image, at its place and under its number.
pub record IsTableOf (image : TableBlocks) (t : Table) : Type 0 where
  pub is : IsTable image
  pub same : t ≡ table_of t.number t.start image

-- tables are those of images, in order
abbrev pub AreTablesOf : List TableBlocks → List Table → Type 0
AreTablesOf [] [] = Unit {0}
AreTablesOf (image ∷ images) (t ∷ tables) = IsTableOf image t × AreTablesOf images tables
AreTablesOf [] (t ∷ tables) = ⊥
AreTablesOf (image ∷ images) [] = ⊥

-- Tables are those that a merge makes of this input, wherever it is divided.
pub record AreMadeOf (input : MergeInput) (tables : List Table) : Type 0 where
  pub images : List TableBlocks
  pub kept : AreTables (kept_of input) images
  pub placed : AreTablesOf images tables

-- the blocks of a table's extent: its data blocks, which its versions fill in order, filter, index and footer
abbrev pub blocks_of : Table → List (List ℕ)
blocks_of t = extent_in_blocks t.number t.outline.filter (division.blocks t.versions)

-- the blocks of tables, one after the other, each with its place in the data area
abbrev pub placed_blocks : List Table → List Write
placed_blocks tables = flat_map (λ t. run_at t.start (blocks_of t)) tables

-- the writes of a block to its eight sectors, where the data area begins with the sector `area`
abbrev pub block_writes : ℕ → Write → List Write
block_writes area block = run_at (area + 8 * block.at) (in_sectors 8 block.bytes)

-- the writes of blocks
abbrev pub writes_of : ℕ → List Write → List Write
writes_of area blocks = flat_map (block_writes area) blocks

-- the next blocks, at most eight, where `left` are left
abbrev pub next_blocks : List Table → ℕ → List Write
next_blocks tables left = take 8 (drop (length (placed_blocks tables) - left) (placed_blocks tables))

-- which of the blocks that images take stands at a place, counted through them: the image, counted from n on, and the place in it
abbrev pub place_in : ℕ → ℕ → List TableBlocks → Option (ℕ × ℕ)
place_in n at [] = None
place_in n at (image ∷ rest) = if ltb at (extent_size image) then Some (n, at) else place_in (n + 1) (at - extent_size image) rest

-- the extent of a table lies in the first `size` sectors, where the data area begins with the sector `area`
abbrev pub EndsWithin : ℕ → ℕ → Table → Type 0
EndsWithin size area t = area + 8 * (t.start + t.blocks) ≤ size

-- what a job has to write: its input, its outputs, and how many of their blocks are left
pub record Placed : Type 0 where
  pub input : MergeInput
  pub tables : List Table
  pub left : ℕ

-- The images are those that a merge makes of the input, the tables are theirs, and these numbers of their blocks are written and
-- left.
pub record AreOutputsOf (input : MergeInput) (images : List TableBlocks) (tables : List Table) (written left : ℕ) : Type 0 where
  pub kept : AreTables (kept_of input) images
  pub placed : AreTablesOf images tables
  pub counted : written + left ≡ length (placed_blocks tables)
  pub fits : written + left < 2 ^ 32
