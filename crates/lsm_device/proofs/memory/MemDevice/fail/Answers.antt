use Rattle.std.proofs.Common.{refl}
use Rattle.lsm_device.proofs.memory.MemDevice.fail.Goals as goal

pub returns-clause-failure : goal.returns-clause-failure
returns-clause-failure g c = refl

pub returns-clause-noted : goal.returns-clause-noted
returns-clause-noted g c = refl
