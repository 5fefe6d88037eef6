use Rattle.lsm_table.specs.Items.{items_at}
use Rattle.lsm_table.proofs.Reading.{none_counted_here, some_counted_at}
use Rattle.lsm_table.proofs.entry_place.EntryPlace.first.Goals as goal

pub returns-then-count-eq0 : goal.returns-then-count-eq0
returns-then-count-eq0 c = none_counted_here c.args.block.now c.read_u16-count.result (items_at c.bad.result c.args.block.now) c.told-block c.read_u16-count.ensures c.if-count-eq0.true c.bad.ensures

pub returns : goal.returns
returns c = some_counted_at c.args.block.now c.read_u16-count.result c.told-block c.read_u16-count.ensures c.if-count-eq0.false
