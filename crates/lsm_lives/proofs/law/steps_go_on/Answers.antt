use Rattle.lsm_lives.proofs.Steps.{go_on}
use Rattle.lsm_lives.proofs.law.steps_go_on.Goals as goal

pub returns : goal.returns
returns c = go_on
