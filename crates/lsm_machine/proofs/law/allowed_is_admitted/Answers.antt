use Rattle.lsm_machine.proofs.Steps.{admits_step, course_of, no_bad_table_in}
use Rattle.lsm_machine.proofs.law.allowed_is_admitted.Goals as goal

pub returns-clause-step : goal.returns-clause-step
returns-clause-step c = λ m step reply allows. admits_step m step reply allows

pub returns-clause-run : goal.returns-clause-run
returns-clause-run c = λ m steps replies run. course_of m steps replies run

pub returns-clause-tables : goal.returns-clause-tables
returns-clause-tables c = λ m step allows. no_bad_table_in m step allows
