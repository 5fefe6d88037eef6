use Rattle.std.proofs.Common.{Some}
use Rattle.lsm_machine.specs.Work.{Take}
use Rattle.lsm_upkeep.proofs.Upkept.{works}
use Rattle.corwaphi_c.proofs.pieces.Upkeep.begin_chosen.Goals as goal

pub returns : goal.returns
returns g c = works _ _ (Take (Some c.args.choice)) _ c.job_take_of-taken.ensures.works
