use Rattle.lsm_upkeep.proofs.Upkept.{then}
use Rattle.lsm_upkeep.proofs.flushing.sink_or_join.Goals as goal

pub returns-in-ToTheEnd : goal.returns-in-ToTheEnd
returns-in-ToTheEnd g c = then c.args.store.now c.step_down.new.store c.join.new.store c.step_down.ensures c.join.ensures
