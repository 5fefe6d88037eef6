use Rattle.lsm_machine.specs.Work.{Drop}
use Rattle.lsm_upkeep.proofs.Upkept.{works}
use Rattle.lsm_upkeep.proofs.piecework.end_of.Goals as goal

pub returns : goal.returns
returns g c = works _ _ (Drop c.args.job) _ c.job_drop.ensures.works
