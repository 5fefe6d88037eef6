use Rattle.lsm_store.proofs.StoredTables.{synced_stored, synced_each}
use Rattle.lsm_store.proofs.stored_law.syncs_keep_tables.Goals as goal

pub returns-clause-stored : goal.returns-clause-stored
returns-clause-stored c = synced_stored

pub returns-clause-moments : goal.returns-clause-moments
returns-clause-moments c = synced_each
