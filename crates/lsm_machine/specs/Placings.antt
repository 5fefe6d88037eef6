-- Where images find room in the data area, and the tables that they become there.
use Rattle.std.specs.Prelude.{ℕ, zero, suc, ◌+◌, Bool, true, ◌&&◌, List, [], ◌∷◌, Option, Some, None, option_map, option_and_then, if◌then◌else◌}
use Rattle.lsm_extent.specs.Area.{Area, is_free, handed_out}
use Rattle.lsm_table.specs.Division.{TableBlocks}
use Rattle.lsm_table.specs.Extents.{extent_size}
use Rattle.lsm_levels.specs.Tables.{Table, table_of}

-- whether n blocks from one on are free
abbrev pub is_free_run : Area → ℕ → ℕ → Bool
is_free_run area first zero = true
is_free_run area first (suc blocks) = is_free area first && is_free_run area (suc first) blocks

-- the first of n places, from one on, where this number of blocks is free
abbrev pub first_fit : Area → ℕ → ℕ → ℕ → Option ℕ
first_fit area blocks zero at = None
first_fit area blocks (suc more) at = if is_free_run area at blocks then Some at else first_fit area blocks more (suc at)

-- the lowest place of the area where this number of blocks is free
abbrev pub lowest_fit : Area → ℕ → Option ℕ
lowest_fit area blocks = first_fit area blocks (suc area.blocks) 0

-- Images placed in order under the numbers from one on, each at the lowest place of what those before it leave: all, or none
-- where one of them finds no room.
abbrev pub place_all : ℕ → Area → List TableBlocks → Option (List Table)
place_all number area [] = Some []
place_all number area (image ∷ rest) =
    option_and_then (λ start. option_map (λ later. table_of number start image ∷ later) (place_all (number + 1) (handed_out (record { first = start; blocks = extent_size image }) area) rest)) (lowest_fit area (extent_size image))
