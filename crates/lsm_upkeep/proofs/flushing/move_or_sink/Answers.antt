use Rattle.lsm_upkeep.proofs.Upkept.{then}
use Rattle.lsm_upkeep.proofs.flushing.move_or_sink.Goals as goal

pub returns : goal.returns
returns g c = then c.args.store.now c.step_aside.new.store c.sink_or_join.new.store c.step_aside.ensures c.sink_or_join.ensures
