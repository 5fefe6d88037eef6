use Rattle.lsm_store.proofs.InstalledTables.{flush_goes_on, merge_goes_on}
use Rattle.lsm_store.proofs.stored_law.jobs_may_go_on.Goals as goal

pub returns-clause-flush : goal.returns-clause-flush
returns-clause-flush c = λ p s d next_table new stored are. flush_goes_on p s d stored next_table new are

pub returns-clause-merge : goal.returns-clause-merge
returns-clause-merge c = λ p s d next_table runs x new stored are. merge_goes_on p s d stored next_table runs x new are
