use Rattle.lsm_store.proofs.FewTables.{few_law}
use Rattle.lsm_store.proofs.work_law.tables_stay_few.Goals as goal

pub returns : goal.returns
returns c = few_law
