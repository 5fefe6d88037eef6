use Rattle.lsm_open.proofs.BlockReads.{nothing_read}
use Rattle.lsm_open.proofs.counting.deletes_of.Goals as goal

pub returns-in-Some-clause-device : goal.returns-in-Some-clause-device
returns-in-Some-clause-device g c = rw c.in-Some.is (nothing_read (g.D.Device.medium c.args.device.now))
