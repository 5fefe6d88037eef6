use Rattle.std.proofs.Common.{◌∙◌}
use Rattle.lsm_check.proofs.Readings.{free_counted}
use Rattle.lsm_check.proofs.checking.report_of.Goals as goal

pub returns-clause-free_blocks : goal.returns-clause-free_blocks
returns-clause-free_blocks g c = λ size held. c.free_blocks.ensures ∙ free_counted _ _ _ held
