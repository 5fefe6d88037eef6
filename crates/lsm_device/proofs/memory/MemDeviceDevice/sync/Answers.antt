use Rattle.std.proofs.Common.{rules}
use Rattle.lsm_device.proofs.memory.MemDeviceDevice.sync.Goals as goal

pub returns-clause-stands : goal.returns-clause-stands
returns-clause-stands g c = search rules

pub returns-clause-unchanged : goal.returns-clause-unchanged
returns-clause-unchanged g c = search rules
