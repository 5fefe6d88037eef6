use Rattle.lsm_store.proofs.Cuts.{cuts_law}
use Rattle.lsm_machine.proofs.AnsweredWork.{jobs_law}
use Rattle.lsm_machine.proofs.PlacedImages.{placing_law, placed_versions_law}
use Rattle.lsm_store.proofs.work_law.slots_answer_the_work.Goals as goal

pub returns-clause-placing : goal.returns-clause-placing
returns-clause-placing c = placing_law

pub returns-clause-jobs : goal.returns-clause-jobs
returns-clause-jobs c = jobs_law

pub returns-clause-cuts : goal.returns-clause-cuts
returns-clause-cuts c = cuts_law

pub returns-clause-versions : goal.returns-clause-versions
returns-clause-versions c = placed_versions_law
