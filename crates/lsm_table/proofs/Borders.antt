-- The data blocks of tables, and those that their entries take.
use Rattle.std.proofs.Common.{◌≡◌, ◌+◌, ◌<◌, ◌≤◌, List, [], ◌∷◌, length, ap, arith}
use Rattle.std.specs.List.{flat_map}
use Rattle.lsm_table.specs.Division.{TableBlocks, entries_of}
use Rattle.lsm_table.specs.BlockCounts.{block_count, data_blocks, AreInBlocks, DataBlockLaws}
use Rattle.lsm_table.proofs.Blocks.{only_blocks, blocks_some}
use Rattle.lsm_table.proofs.Adding.{block_laws}

later : (table : TableBlocks) (tables : List TableBlocks) → AreInBlocks (table ∷ tables) → AreInBlocks tables
later table tables are = record { nonempty = are.nonempty.1; in_blocks = are.in_blocks.1 }

pub own_blocks : (table : TableBlocks) (tables : List TableBlocks) → AreInBlocks (table ∷ tables) → length table ≡ block_count (entries_of table)
own_blocks table tables are = ap (λ (t : TableBlocks). length t) (only_blocks (entries_of table) table are.nonempty.0 are.in_blocks.0)

least : (tables : List TableBlocks) → AreInBlocks tables → 0 < length tables → block_count (flat_map entries_of tables) ≤ data_blocks tables
least [] are some = absurd (omega arith)
least (table ∷ []) are some = omega (arith, own_blocks table [] are, block_laws.appended (entries_of table) [])
least (table ∷ next ∷ tables) are some =
    omega (arith, own_blocks table (next ∷ tables) are, block_laws.joined (entries_of table) (flat_map entries_of (next ∷ tables)), least (next ∷ tables) (later table (next ∷ tables) are) (omega arith))

most : (tables : List TableBlocks) → AreInBlocks tables → data_blocks tables + 1 ≤ block_count (flat_map entries_of tables) + length tables
most [] are = omega (arith, blocks_some [])
most (table ∷ tables) are =
    omega (arith, own_blocks table tables are, block_laws.parted (entries_of table) (flat_map entries_of tables), most tables (later table tables are))

pub data_block_laws : DataBlockLaws
data_block_laws = record { least = least; most = most }
