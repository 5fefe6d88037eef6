use Rattle.lsm_store.proofs.InstalledWork.{installed_apart, installed_lie, outputs_low}
use Rattle.lsm_store.proofs.install_law.installed_manifests_are_manifests.Goals as goal

pub returns-clause-within : goal.returns-clause-within
returns-clause-within c = λ size count l w number slot runs have numbered is made fit whole lie blocks counted generation later high few. installed_lie w runs have numbered number slot is made fit whole size count l lie blocks counted generation later high few

pub returns-clause-apart : goal.returns-clause-apart
returns-clause-apart c = λ w number slot runs have numbered is made fit. installed_apart w runs have numbered number slot is made fit

pub returns-clause-numbers : goal.returns-clause-numbers
returns-clause-numbers c = λ w number slot numbered is high. outputs_low w number slot numbered is high
