-- How many blocks images take.
use Rattle.std.proofs.Common.{ℕ, ◌+◌, ◌*◌, ◌/◌, ◌≤◌, List, [], ◌∷◌, length, ap, arith}
use Rattle.std.specs.Prelude.{count_by}
use Rattle.std.specs.List.{AllByRecursion}
use Rattle.std.specs.Int.{div_ceil}
use Prim.Native.Nat.{min}
use Rattle.lsm_codec.specs.Keys.{Bytes}
use Rattle.lsm_codec.specs.Versions.{Version}
use Rattle.lsm_table.specs.Division.{TableBlocks, IsTable, IsTables}
use Rattle.lsm_table.specs.Extents.{extent_size}
use Rattle.lsm_table.specs.BlockCounts.{block_count, data_blocks, extent_blocks, AreInBlocks}
use Rattle.lsm_table.proofs.Borders.{data_block_laws}
use Rattle.lsm_table.proofs.Ends.{with_key}
use Rattle.lsm_table.proofs.Outlines.{few_blocks}
use Rattle.lsm_table.proofs.TableCounts.{table_count_laws}
use Rattle.lsm_room.specs.Outputs.{TakeAtMost}

-- The images of entries, of which at most `group` have one key.
pub record AreFew (group : ℕ) (entries : List Version) (images : List TableBlocks) : Type 0 where
  pub tables : IsTables entries images
  pub each : AllByRecursion IsTable images
  pub few : (key : Bytes) → count_by (with_key key) entries ≤ group

module _ (entries : List Version) (images : List TableBlocks) where
  in_blocks : IsTables entries images → AreInBlocks images
  in_blocks are = record { nonempty = are.nonempty; in_blocks = are.in_blocks }

  -- each border adds a block at most
  pub data_most : IsTables entries images → data_blocks images + 1 ≤ block_count entries + length images
  data_most are = omega (arith, data_block_laws.most images (in_blocks are), ap block_count are.whole)

  pub few_of_one : AreFew 1 entries images → (blocks count : ℕ) → block_count entries ≤ blocks → length entries ≤ count → length images ≤ count / 3200 + ((blocks + count / 3200) / 63 + 1)
  few_of_one are blocks count block_few entry_few =
      let few : length images ≤ (data_blocks images / 64) + ((length entries / 3200) + 1) = table_count_laws.few entries images 1 are.tables (omega arith) are.few in
      omega (arith, few, data_most are.tables, block_few, entry_few)

  pub few_of_many : AreFew 33 entries images → (blocks count : ℕ) → block_count entries ≤ blocks → length entries ≤ count → length images ≤ count / 3168 + ((blocks + count / 3168) / 31 + 1)
  few_of_many are blocks count block_few entry_few =
      let few : length images ≤ (data_blocks images / 32) + ((length entries / 3168) + 1) = table_count_laws.few entries images 33 are.tables (omega arith) are.few in
      omega (arith, few, data_most are.tables, block_few, entry_few)

-- ---- their extents

pub all_most : (images : List TableBlocks) (blocks tables : ℕ) → AllByRecursion IsTable images → data_blocks images ≤ blocks → length images ≤ tables → extent_blocks images ≤ blocks + (div_ceil (264 * blocks) 4096 + 3 * tables)
all_most images blocks tables each few_data few = omega (arith, table_count_laws.all images each, few_data, few)

pub each_most : (images : List TableBlocks) (blocks : ℕ) → AllByRecursion IsTable images → data_blocks images ≤ blocks → AllByRecursion (λ image. extent_size image ≤ min blocks 64 + (div_ceil (264 * min blocks 64) 4096 + 2)) images
each_most [] blocks each few = tt
each_most (image ∷ images) blocks each few =
    (omega (arith, table_count_laws.one image each.0, few_blocks image each.0, few), each_most images blocks each.1 (omega (arith, few)))

-- one image, or none
pub one_image : (images : List TableBlocks) (blocks total : ℕ) → AllByRecursion IsTable images → length images ≤ 1 → data_blocks images ≤ blocks → min blocks 64 + (div_ceil (264 * min blocks 64) 4096 + 2) ≤ total → TakeAtMost total total images
one_image [] blocks total each few few_data least = record { each = tt; all = omega arith }
one_image (image ∷ []) blocks total each few few_data least =
    let most = each_most (image ∷ []) blocks each few_data in
    record { each = (omega (arith, most.0, least), tt); all = omega (arith, most.0, least) }
one_image (image ∷ other ∷ images) blocks total each few few_data least = absurd (omega (arith, few))
