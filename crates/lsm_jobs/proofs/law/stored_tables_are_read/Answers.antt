use Rattle.lsm_jobs.proofs.StoredTakings.{stored_taking_law}
use Rattle.lsm_jobs.proofs.StoredJobs.{stored_reading_law, never_bad_law}
use Rattle.lsm_jobs.proofs.law.stored_tables_are_read.Goals as goal

pub returns-clause-taking : goal.returns-clause-taking
returns-clause-taking c = stored_taking_law

pub returns-clause-reading : goal.returns-clause-reading
returns-clause-reading c = stored_reading_law

pub returns-clause-good : goal.returns-clause-good
returns-clause-good c = never_bad_law
