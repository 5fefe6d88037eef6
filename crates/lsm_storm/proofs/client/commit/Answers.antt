use Rattle.std.proofs.Common.{refl}
use Rattle.lsm_lives.specs.Calls.{call_of, told_of}
use Rattle.lsm_machine.specs.Calls.{Commit}
use Rattle.lsm_storm.proofs.Crewing.{stays}
use Rattle.lsm_storm.proofs.client.commit.Goals as goal

pub returns : goal.returns
returns g c = stays _ _ (Commit c.in-Ok.batch) told_of c.call.result c.call.ensures.made c.call.ensures.refused
