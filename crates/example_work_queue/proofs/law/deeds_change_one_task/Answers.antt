use Rattle.example_work_queue.proofs.Doing.{does}
use Rattle.example_work_queue.proofs.Histories.{empty_queue}
use Rattle.example_work_queue.proofs.law.deeds_change_one_task.Goals as goal

pub returns-clause-does : goal.returns-clause-does
returns-clause-does c = does

pub returns-clause-empty : goal.returns-clause-empty
returns-clause-empty c = empty_queue
