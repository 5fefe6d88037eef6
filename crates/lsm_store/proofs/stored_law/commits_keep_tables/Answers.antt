use Rattle.lsm_store.proofs.AppendedTables.{commit_moments, commit_stopped, commit_stored, commit_extents}
use Rattle.lsm_store.proofs.stored_law.commits_keep_tables.Goals as goal

pub returns-clause-moments : goal.returns-clause-moments
returns-clause-moments c = commit_moments

pub returns-clause-stopped : goal.returns-clause-stopped
returns-clause-stopped c = commit_stopped

pub returns-clause-stored : goal.returns-clause-stored
returns-clause-stored c = commit_stored

pub returns-clause-extents : goal.returns-clause-extents
returns-clause-extents c = commit_extents
