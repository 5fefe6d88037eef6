use Rattle.lsm_store.proofs.MergedRecords.{installed_records, installed_runs}
use Rattle.lsm_store.proofs.install_law.installed_records_are_placed.Goals as goal

pub returns-clause-records : goal.returns-clause-records
returns-clause-records c = installed_records

pub returns-clause-runs : goal.returns-clause-runs
returns-clause-runs c = installed_runs
