use Rattle.std.proofs.Common.{◌≡◌, ◌+◌, length}
use Rattle.std.specs.List.{AllByRecursion}
use Rattle.std.specs.Vec.Iter.{into_iter_items, into_iter_len}
use Rattle.lsm_codec.specs.Versions.{IsEntry}
use Rattle.lsm_mem.specs.EntryOrder.{with_batches}
use Rattle.lsm_mem.specs.Versions.{NumberedBelow}
use Rattle.lsm_open.proofs.replayed.insert_all.Given as goal

abbrev pub invariant-loop-batch : goal.invariant-loop-batch
invariant-loop-batch g l = record {
  left : l.number + length (into_iter_items l.batch-iterator) ≡ l.count + length l.fn.batches.items;
  numbered : NumberedBelow (l.number + 1) l.mem;
  inserted : with_batches l.count l.fn.batches.items l.fn.mem ≡ with_batches l.number (into_iter_items l.batch-iterator) l.mem;
  entries : AllByRecursion IsEntry l.fn.mem → AllByRecursion IsEntry l.mem;
  len : into_iter_len l.batch-iterator ≡ length (into_iter_items l.batch-iterator);
}
