use Rattle.lsm_table.proofs.Largest.{entry_more}
use Rattle.lsm_table.proofs.image.largest_from.Goals as goal

pub loop-entry-preserved : goal.loop-entry-preserved
loop-entry-preserved g c = entry_more c.args.so_far c.args.entries.now c.loop-entry.entry-index c.entry-item.result c.loop-entry.largest c.larger-largest.result c.loop-entry-test.true c.entry-item.is c.loop-entry.invariant c.larger-largest.ensures
