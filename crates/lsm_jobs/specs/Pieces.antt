-- The writes of one step of writing, table by table.
use Rattle.std.specs.Prelude.{◌≡◌, ◌≤◌, ℕ, ◌+◌, ◌-◌, ◌*◌, min, List, [], ◌∷◌, ◌++◌, length, take, drop}
use Rattle.std.specs.List.{AllByRecursion, flat_map}
use Rattle.lsm_device.specs.Disk.{Write}
use Rattle.lsm_device.specs.Runs.{run_at}
use Rattle.lsm_table.specs.Division.{TableBlocks}
use Rattle.lsm_levels.specs.Tables.{Table}
use Rattle.lsm_jobs.specs.Outputs.{AreTablesOf, blocks_of, placed_blocks, in_sectors, writes_of, next_blocks}

-- the sectors of a table's extent, as its blocks fill them
abbrev pub sectors_of : Table → List (List ℕ)
sectors_of t = flat_map (in_sectors 8) (blocks_of t)

abbrev pub sector_count : Table → ℕ
sector_count t = length (sectors_of t)

-- of the sectors of a table those from one on up to another, as writes, where the data area begins with the sector `area`
abbrev pub table_writes : ℕ → ℕ → ℕ → Table → List Write
table_writes area from to t = run_at ((area + 8 * t.start) + from) (take (to - from) (drop from (sectors_of t)))

-- Of the sectors of tables, counted through them, those from one on up to another: in each table in turn those that it has.
abbrev pub sector_writes : ℕ → ℕ → ℕ → List Table → List Write
sector_writes area from to [] = []
sector_writes area from to (t ∷ rest) = table_writes area (min from (sector_count t)) (min to (sector_count t)) t ++ sector_writes area (from - sector_count t) (to - sector_count t) rest

-- how many sectors of tables are written where `left` of their blocks are left
abbrev pub written_of : List Table → ℕ → ℕ
written_of tables left = 8 * (length (placed_blocks tables) - left)

-- The writes of a step, at each moment those that it made so far, are in each table those of its next sectors, none after its
-- extent. With all of them eight blocks fewer are left, or none.
pub record PiecesLaw : Type 0 where
  pub whole : (images : List TableBlocks) (tables : List Table) → AreTablesOf images tables → AllByRecursion (λ t. sector_count t ≡ 8 * t.blocks) tables
  pub so_far : (area left k : ℕ) (tables : List Table) → k ≤ length (writes_of area (next_blocks tables left))
      → take k (writes_of area (next_blocks tables left)) ≡ sector_writes area (written_of tables left) (written_of tables left + k) tables
  pub all : (area left : ℕ) (tables : List Table) → left ≤ length (placed_blocks tables)
      → writes_of area (next_blocks tables left) ≡ sector_writes area (written_of tables left) (written_of tables (left - 8)) tables
