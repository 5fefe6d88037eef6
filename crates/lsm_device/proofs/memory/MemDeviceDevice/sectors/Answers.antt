use Rattle.std.proofs.Common.{rules}
use Rattle.lsm_device.proofs.memory.MemDeviceDevice.sectors.Goals as goal

pub returns : goal.returns
returns g c = search rules
