use Rattle.lsm_machine.proofs.Steps.{course_answered, run_join, course_join, last_join, left_before, left_behind}
use Rattle.lsm_machine.proofs.law.runs_join.Goals as goal

pub returns-clause-run : goal.returns-clause-run
returns-clause-run c = λ m steps more replies others run rest. run_join more others m steps replies run rest

pub returns-clause-course : goal.returns-clause-course
returns-clause-course c = λ m mid end steps more replies others course rest. course_join more others m mid end steps replies course rest

pub returns-clause-machine : goal.returns-clause-machine
returns-clause-machine c = λ m end steps more replies others course. last_join more others m steps replies (course_answered m end steps replies course)

pub returns-clause-before : goal.returns-clause-before
returns-clause-before c = λ m end steps more replies others left course found. left_before more others left m steps replies (course_answered m end steps replies course) found

pub returns-clause-behind : goal.returns-clause-behind
returns-clause-behind c = λ m end steps more replies others left course found. left_behind more others left m steps replies (course_answered m end steps replies course) found
