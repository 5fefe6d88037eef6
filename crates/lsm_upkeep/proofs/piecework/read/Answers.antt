use Rattle.lsm_machine.specs.Work.{Read}
use Rattle.lsm_upkeep.proofs.Upkept.{then, works}
use Rattle.lsm_upkeep.proofs.piecework.read.Goals as goal

pub returns : goal.returns
returns g c = then c.args.store.now c.job_read.new.self c.end_of.new.store (works _ _ (Read c.args.job) _ c.job_read.ensures.works) c.end_of.ensures
