use Rattle.lsm_store.proofs.StoredTables.{recovered_stored}
use Rattle.lsm_store.proofs.stored_law.recovered_tables_are_stored.Goals as goal

pub returns : goal.returns
returns c = recovered_stored
