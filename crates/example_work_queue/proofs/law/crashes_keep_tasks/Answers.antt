use Rattle.example_work_queue.proofs.Histories.{beginning}
use Rattle.example_work_queue.proofs.law.crashes_keep_tasks.Goals as goal

pub returns : goal.returns
returns c = beginning
