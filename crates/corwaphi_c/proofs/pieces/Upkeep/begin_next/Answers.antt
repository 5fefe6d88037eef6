use Rattle.std.proofs.Common.{None}
use Rattle.lsm_machine.specs.Work.{Take}
use Rattle.lsm_upkeep.proofs.Upkept.{works}
use Rattle.corwaphi_c.proofs.pieces.Upkeep.begin_next.Goals as goal

pub returns : goal.returns
returns g c = works _ _ (Take None) _ c.job_take-taken.ensures.works
