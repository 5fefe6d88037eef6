use Rattle.lsm_open.proofs.NumberedApart.{named_apart}
use Rattle.lsm_store.proofs.StoredLevels.{levels_kept, blocks_kept, levels_installed, jobs_stored}
use Rattle.lsm_store.proofs.stored_law.levels_stay_stored.Goals as goal

pub returns-clause-kept : goal.returns-clause-kept
returns-clause-kept c = levels_kept

pub returns-clause-blocks : goal.returns-clause-blocks
returns-clause-blocks c = blocks_kept

pub returns-clause-numbers : goal.returns-clause-numbers
returns-clause-numbers c = named_apart

pub returns-clause-jobs : goal.returns-clause-jobs
returns-clause-jobs c = jobs_stored

pub returns-clause-installed : goal.returns-clause-installed
returns-clause-installed c = levels_installed
