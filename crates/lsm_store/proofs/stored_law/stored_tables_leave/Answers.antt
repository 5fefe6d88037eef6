use Rattle.lsm_store.proofs.LeftStates.{stored_leaves, stored_reads, stopped_leaves}
use Rattle.lsm_store.proofs.VersionPoints.{stored_points}
use Rattle.lsm_store.proofs.stored_law.stored_tables_leave.Goals as goal

pub returns-clause-crashes : goal.returns-clause-crashes
returns-clause-crashes c = stored_leaves

pub returns-clause-reads : goal.returns-clause-reads
returns-clause-reads c = stored_reads

pub returns-clause-stopped : goal.returns-clause-stopped
returns-clause-stopped c = λ p s d besides stored. stopped_leaves p s d stored besides

pub returns-clause-maps : goal.returns-clause-maps
returns-clause-maps c = stored_points
