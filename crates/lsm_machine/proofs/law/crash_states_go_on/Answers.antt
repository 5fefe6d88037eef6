use Rattle.lsm_machine.proofs.Steps.{admitted_in_step, before_step, goes_in_step, step_refused}
use Rattle.lsm_machine.proofs.law.crash_states_go_on.Goals as goal

pub returns-clause-before : goal.returns-clause-before
returns-clause-before c = λ m step left found. before_step left m step found

pub returns-clause-after : goal.returns-clause-after
returns-clause-after c = λ m step reply left none may found. admitted_in_step m step reply left none may found

pub returns-clause-guarded : goal.returns-clause-guarded
returns-clause-guarded c = λ m step reply left may found. goes_in_step m step reply left may found

pub returns-clause-refused : goal.returns-clause-refused
returns-clause-refused c = λ m step e other. step_refused m step e other
