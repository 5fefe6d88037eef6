use Rattle.lsm_storm.proofs.Crewing.{goes_on-twice}
use Rattle.lsm_storm.proofs.counter.try_once.Goals as goal

pub returns : goal.returns
returns g c = goes_on-twice _ _ _ c.value_of.ensures c.value_of-2.ensures
