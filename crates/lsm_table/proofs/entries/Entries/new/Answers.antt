use Rattle.lsm_codec.proofs.DataBlockLaws.{exactly}
use Rattle.lsm_table.proofs.Reading.{some_counted, none_counted_here}
use Rattle.lsm_table.proofs.entries.Entries.new.Goals as goal

pub returns-then-count-eq0-clause-items : goal.returns-then-count-eq0-clause-items
returns-then-count-eq0-clause-items c = none_counted_here c.args.block.now c.read_u16-count.result c.bad.result c.told-block c.read_u16-count.ensures c.if-count-eq0.true c.bad.ensures

pub returns-then-count-eq0-clause-exact : goal.returns-then-count-eq0-clause-exact
returns-then-count-eq0-clause-exact c =
    exactly c.args.block.now c.bad.result (record { fit = c.fits-block }) c.told-block (none_counted_here c.args.block.now c.read_u16-count.result c.bad.result c.told-block c.read_u16-count.ensures c.if-count-eq0.true c.bad.ensures)

pub returns-clause-items : goal.returns-clause-items
returns-clause-items c = some_counted c.args.block.now c.read_u16-count.result c.told-block c.read_u16-count.ensures c.if-count-eq0.false

pub returns-clause-exact : goal.returns-clause-exact
returns-clause-exact c =
    exactly c.args.block.now _ (record { fit = c.fits-block }) c.told-block (some_counted c.args.block.now c.read_u16-count.result c.told-block c.read_u16-count.ensures c.if-count-eq0.false)
