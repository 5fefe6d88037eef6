use Rattle.std.proofs.Common.{◌≡◌, ◌+◌, ◌≤◌, length}
use Rattle.lsm_codec.specs.Entries.{entries_in}
use Rattle.lsm_open.proofs.CountedReads.{with_items}
use Rattle.lsm_open.proofs.counting.with_block.Given as goal

abbrev pub invariant-loop-item : goal.invariant-loop-item
invariant-loop-item l = record {
  can : goal.iterator-loop-item.can_next l.item-iterator;
  finite : goal.iterator-loop-item.is_finite l.item-iterator;
  read : with_items l.more l.item-iterator ≡ with_items l.fn.count (entries_in l.block);
  few : l.more.entries + length l.item-iterator ≤ l.fn.count.entries + 4097;
  among : l.more.deletes ≤ l.more.entries;
}
