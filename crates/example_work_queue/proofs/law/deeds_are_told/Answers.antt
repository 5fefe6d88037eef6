use Rattle.example_work_queue.proofs.Histories.{told, onward, once}
use Rattle.example_work_queue.proofs.law.deeds_are_told.Goals as goal

pub returns-clause-told : goal.returns-clause-told
returns-clause-told c = told

pub returns-clause-onward : goal.returns-clause-onward
returns-clause-onward c = onward

pub returns-clause-once : goal.returns-clause-once
returns-clause-once c = once
