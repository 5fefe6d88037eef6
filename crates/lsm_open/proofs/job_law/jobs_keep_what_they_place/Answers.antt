use Rattle.lsm_open.proofs.Writing.{placed_more, written_keeps, dropped_keeps, synced_keeps, installed_keeps}
use Rattle.lsm_open.proofs.job_law.jobs_keep_what_they_place.Goals as goal

pub returns-clause-placed : goal.returns-clause-placed
returns-clause-placed c = λ p placed d x may keeps. placed_more p placed d x may keeps

pub returns-clause-written : goal.returns-clause-written
returns-clause-written c = λ p xs x ys d m fits keeps. written_keeps p xs x ys d m fits keeps

pub returns-clause-dropped : goal.returns-clause-dropped
returns-clause-dropped c = λ p xs own ys d keeps. dropped_keeps p xs own ys d keeps

pub returns-clause-synced : goal.returns-clause-synced
returns-clause-synced c = λ p placed d keeps. synced_keeps p placed d keeps

pub returns-clause-installed : goal.returns-clause-installed
returns-clause-installed c = λ p q xs own ys start d size keeps carried rests behind apart clear. installed_keeps p q xs own ys start d size keeps carried rests behind apart clear
