use Rattle.lsm_store.proofs.Accounted.{accounted_law}
use Rattle.lsm_machine.proofs.Accounts.{accounts_law}
use Rattle.lsm_store.proofs.work_law.extents_stay_accounted_for.Goals as goal

pub returns-clause-placed : goal.returns-clause-placed
returns-clause-placed c = accounts_law

pub returns-clause-kept : goal.returns-clause-kept
returns-clause-kept c = accounted_law
