use Rattle.lsm_jobs.proofs.KeptJobs.{taking_law, installing_law, going_on_law, freeing_law}
use Rattle.lsm_jobs.proofs.Found.{found_law}
use Rattle.lsm_jobs.proofs.law.slots_stay_apart.Goals as goal

pub returns-clause-taking : goal.returns-clause-taking
returns-clause-taking c = taking_law

pub returns-clause-installing : goal.returns-clause-installing
returns-clause-installing c = installing_law

pub returns-clause-going_on : goal.returns-clause-going_on
returns-clause-going_on c = going_on_law

pub returns-clause-freeing : goal.returns-clause-freeing
returns-clause-freeing c = freeing_law

pub returns-clause-found : goal.returns-clause-found
returns-clause-found c = found_law
