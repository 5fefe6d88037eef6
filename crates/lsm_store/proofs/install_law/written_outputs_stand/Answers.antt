use Rattle.lsm_store.proofs.WrittenOutputs.{outputs_stored, outputs_named, records_placed, has_placed}
use Rattle.lsm_store.proofs.install_law.written_outputs_stand.Goals as goal

pub returns-clause-placed : goal.returns-clause-placed
returns-clause-placed c = has_placed

pub returns-clause-records : goal.returns-clause-records
returns-clause-records c = records_placed

pub returns-clause-stored : goal.returns-clause-stored
returns-clause-stored c = λ p xs ys s d slot outputs stored stage made high. outputs_stored p xs ys s d slot outputs stored stage made high

pub returns-clause-named : goal.returns-clause-named
returns-clause-named c = λ p xs ys s d slot outputs stored stage made high base numbered. outputs_named p xs ys s d slot outputs stored stage made high base numbered
