use Rattle.std.proofs.Common.{◌≡◌, ◌++◌}
use Rattle.std.specs.List.{AllByRecursion}
use Rattle.lsm_codec.specs.Entries.{entries_in}
use Rattle.lsm_table.proofs.Items.{IsItem, items_of}
use Rattle.lsm_table.proofs.decoding.decode_data_block.Given as goal

abbrev pub invariant-loop-item : goal.invariant-loop-item
invariant-loop-item g l = record {
  can : (goal.iterator-loop-item g).can_next l.item-iterator;
  finite : (goal.iterator-loop-item g).is_finite l.item-iterator;
  items : AllByRecursion IsItem l.item-iterator;
  read : entries_in l.block ≡ items_of l.gathered ++ l.item-iterator;
}
