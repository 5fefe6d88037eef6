use Rattle.lsm_table.proofs.Filters.{keys_more}
use Rattle.lsm_table.proofs.image.insert_keys.Goals as goal

pub loop-entry-preserved : goal.loop-entry-preserved
loop-entry-preserved g c = keys_more c.args.filter.now c.args.block.now c.loop-entry.entry-index c.entry-item.result c.key.result.now c.loop-entry.filter c.insert.new.self c.loop-entry-test.true c.entry-item.is c.key.ensures.same c.loop-entry.invariant c.insert.ensures
