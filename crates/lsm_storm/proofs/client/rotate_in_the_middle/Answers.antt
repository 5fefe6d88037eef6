use Rattle.lsm_lives.specs.Calls.{told_of}
use Rattle.lsm_machine.specs.Calls.{Rotate}
use Rattle.lsm_storm.proofs.Crewing.{stays}
use Rattle.lsm_storm.proofs.client.rotate_in_the_middle.Goals as goal

pub returns : goal.returns
returns g c = stays _ _ Rotate told_of c.call.result c.call.ensures.made c.call.ensures.refused
