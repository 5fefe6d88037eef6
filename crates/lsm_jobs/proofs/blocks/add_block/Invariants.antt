use Rattle.std.proofs.Common.{◌≡◌, length}
use Rattle.std.specs.Vec.Iter.{into_iter_items, into_iter_len}
use Rattle.lsm_codec.specs.Versions.{AreOrdered}
use Rattle.lsm_codec.specs.Entries.{entries_in}
use Rattle.lsm_table.proofs.Items.{items_of}
use Rattle.lsm_jobs.specs.Gathering.{IsLonger}
use Rattle.lsm_jobs.proofs.GoingOn.{SameEnd}
use Rattle.lsm_jobs.proofs.blocks.add_block.Given as goal

abbrev pub invariant-loop-entry : goal.invariant-loop-entry
invariant-loop-entry g l = record {
  len : into_iter_len l.entry-iterator ≡ length (into_iter_items l.entry-iterator);
  same : SameEnd l.run.items (items_of (into_iter_items l.entry-iterator)) l.fn.run.items (entries_in l.block);
  longer : IsLonger l.fn.run.items l.run.items;
  ordered : AreOrdered l.run.items;
}
