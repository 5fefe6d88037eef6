use Rattle.lsm_machine.specs.Work.{Write}
use Rattle.lsm_upkeep.proofs.Upkept.{then, works}
use Rattle.lsm_upkeep.proofs.piecework.write.Goals as goal

pub returns : goal.returns
returns g c = then c.args.store.now c.job_write.new.self c.end_of.new.store (works _ _ (Write c.args.job) _ c.job_write.ensures.works) c.end_of.ensures
