use Rattle.lsm_jobs.proofs.Outcomes.{outputs_law}
use Rattle.lsm_jobs.proofs.Installs.{install_law}
use Rattle.lsm_jobs.proofs.law.outputs_may_be_installed.Goals as goal

pub returns-clause-outputs : goal.returns-clause-outputs
returns-clause-outputs c = outputs_law

pub returns-clause-install : goal.returns-clause-install
returns-clause-install c = install_law
