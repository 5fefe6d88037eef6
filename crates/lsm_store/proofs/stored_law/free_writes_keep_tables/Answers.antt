use Rattle.lsm_store.proofs.StoredTables.{free_stored, free_each, free_extents}
use Rattle.lsm_store.proofs.stored_law.free_writes_keep_tables.Goals as goal

pub returns-clause-stored : goal.returns-clause-stored
returns-clause-stored c = free_stored

pub returns-clause-moments : goal.returns-clause-moments
returns-clause-moments c = free_each

pub returns-clause-extents : goal.returns-clause-extents
returns-clause-extents c = free_extents
