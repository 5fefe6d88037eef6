use Rattle.std.proofs.Common.{refl}
use Rattle.lsm_upkeep.proofs.Upkept.{stays, then}
use Rattle.lsm_upkeep.proofs.pushing.go_on.Goals as goal

pub loop-init : goal.loop-init
loop-init g c = stays c.args.store.now c.args.store.now refl

pub loop-preserved : goal.loop-preserved
loop-preserved g c = then c.args.store.now c.loop.store c.take-went.new.store c.loop.invariant c.take-went.ensures
