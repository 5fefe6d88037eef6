use Rattle.lsm_upkeep.proofs.Upkept.{then}
use Rattle.lsm_upkeep.proofs.upkeep.Upkeep.go_on_times.Goals as goal

pub loop-preserved : goal.loop-preserved
loop-preserved g c = then c.args.store.now c.loop.store c.go_on_once-in-loop.new.store c.loop.invariant c.go_on_once-in-loop.ensures
