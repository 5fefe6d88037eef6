use Rattle.lsm_machine.proofs.Steps.{ample_run, ample_last}
use Rattle.lsm_machine.proofs.law.ample_steps_run.Goals as goal

pub returns-clause-run : goal.returns-clause-run
returns-clause-run c = λ m steps. ample_run m steps

pub returns-clause-machine : goal.returns-clause-machine
returns-clause-machine c = λ m steps. ample_last m steps
