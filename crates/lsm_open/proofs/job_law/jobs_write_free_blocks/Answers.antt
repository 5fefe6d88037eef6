use Rattle.lsm_open.proofs.Writing.{free_next}
use Rattle.lsm_open.proofs.job_law.jobs_write_free_blocks.Goals as goal

pub returns : goal.returns
returns c = λ p x m clear fits whole. free_next p x m clear fits whole
