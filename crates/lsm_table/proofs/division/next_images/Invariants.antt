use Rattle.std.proofs.Common.{◌++◌, List, drop}
use Rattle.std.specs.Vec.Iter.{into_iter_items}
use Rattle.lsm_table.specs.Division.{IsInput, TableBlocks, IsTables}
use Rattle.lsm_table.specs.Counting.{EndTables}
use Rattle.lsm_table.proofs.division.next_images.Given as goal

abbrev pub invariant-loop-len : goal.invariant-loop-len
invariant-loop-len g l = record {
  input : IsInput (into_iter_items l.left);
  lens : EndTables (into_iter_items l.left) (drop l.len-index l.lens);
  so_far : (tables : List TableBlocks) → IsTables (into_iter_items l.left) tables → IsTables (into_iter_items l.fn.left) (l.images.items ++ tables);
}
