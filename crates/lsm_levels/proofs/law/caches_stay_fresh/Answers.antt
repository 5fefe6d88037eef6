use Rattle.lsm_levels.proofs.NamedBlocks.{named_law}
use Rattle.lsm_levels.proofs.law.caches_stay_fresh.Goals as goal

pub returns : goal.returns
returns c = named_law
