use Rattle.lsm_lives.specs.Calls.{call_of, told_of}
use Rattle.lsm_storm.proofs.Crewing.{goes_on}
use Rattle.lsm_storm.proofs.counter.value_of.Goals as goal

pub returns-in-Ok-Value : goal.returns-in-Ok-Value
returns-in-Ok-Value g c = goes_on _ _ (call_of c.args.call) told_of c.call.result c.requires c.call.ensures.made c.call.ensures.refused

pub returns : goal.returns
returns g c = goes_on _ _ (call_of c.args.call) told_of c.call.result c.requires c.call.ensures.made c.call.ensures.refused
