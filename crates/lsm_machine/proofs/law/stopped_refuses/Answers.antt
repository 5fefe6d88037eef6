use Rattle.lsm_machine.proofs.Steps.{step_stopped, step_stays}
use Rattle.lsm_machine.proofs.law.stopped_refuses.Goals as goal

pub returns-clause-reply : goal.returns-clause-reply
returns-clause-reply c = λ m step reply stopped may. step_stopped m step reply stopped may

pub returns-clause-machine : goal.returns-clause-machine
returns-clause-machine c = λ m step reply stopped may. step_stays m step reply stopped may
