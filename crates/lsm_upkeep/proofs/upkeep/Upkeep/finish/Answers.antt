use Rattle.lsm_upkeep.proofs.Upkept.{then}
use Rattle.lsm_upkeep.proofs.upkeep.Upkeep.finish.Goals as goal

pub returns-then-self : goal.returns-then-self
returns-then-self g c = then c.args.store.now c.finish_begun.new.store c.compact.new.store c.finish_begun.ensures c.compact.ensures.upkept
