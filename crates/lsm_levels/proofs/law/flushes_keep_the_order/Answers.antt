use Rattle.lsm_levels.proofs.Taking.{flush_law}
use Rattle.lsm_levels.proofs.law.flushes_keep_the_order.Goals as goal

pub returns : goal.returns
returns c = flush_law
