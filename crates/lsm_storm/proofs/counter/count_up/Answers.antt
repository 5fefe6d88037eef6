use Rattle.lsm_storm.proofs.Crewing.{goes_on-not, goes_on-twice}
use Rattle.lsm_storm.proofs.counter.count_up.Goals as goal

pub loop-init : goal.loop-init
loop-init g c = goes_on-not _

pub loop-preserved : goal.loop-preserved
loop-preserved g c = goes_on-twice _ _ _ c.loop.invariant c.try_once.ensures
