use Rattle.example_work_queue.proofs.Histories.{both_done, first_done, rest_done}
use Rattle.example_work_queue.proofs.law.deeds_go_on.Goals as goal

pub returns-clause-joined : goal.returns-clause-joined
returns-clause-joined c = both_done

pub returns-clause-parted : goal.returns-clause-parted
returns-clause-parted c = λ m deeds more done. (first_done m deeds more done, rest_done m deeds more done)
