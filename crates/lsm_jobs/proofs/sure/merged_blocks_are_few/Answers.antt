use Rattle.lsm_jobs.proofs.MergedBlocks.{merged_blocks_law}
use Rattle.lsm_jobs.proofs.sure.merged_blocks_are_few.Goals as goal

pub returns : goal.returns
returns c = merged_blocks_law
