use Rattle.lsm_machine.specs.Work.{Install}
use Rattle.lsm_upkeep.proofs.Upkept.{then, works}
use Rattle.lsm_upkeep.proofs.piecework.install.Goals as goal

pub returns : goal.returns
returns g c = then c.args.store.now c.job_install.new.self c.end_of.new.store (works _ _ (Install c.args.job) _ c.job_install.ensures.works) c.end_of.ensures
