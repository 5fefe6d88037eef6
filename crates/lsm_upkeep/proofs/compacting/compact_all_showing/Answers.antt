use Rattle.lsm_upkeep.proofs.FlushingLaws.{first-behind}
use Rattle.lsm_upkeep.proofs.Upkept.{then}
use Rattle.lsm_upkeep.proofs.compacting.compact_all_showing.Goals as goal

pub returns-clause-upkept : goal.returns-clause-upkept
returns-clause-upkept g c = then c.args.store.now c.take_down.new.store c.join_all.new.store c.take_down.ensures.upkept c.join_all.ensures

pub returns-clause-flushes : goal.returns-clause-flushes
returns-clause-flushes g c = first-behind c.args.store.now c.take_down.new.store c.join_all.new.store c.take_down.ensures.flushes c.join_all.ensures
