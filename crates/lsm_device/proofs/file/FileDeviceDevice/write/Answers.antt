use Rattle.std.proofs.Common.{rules}
use Rattle.lsm_device.proofs.file.FileDeviceDevice.write.Goals as goal

pub returns-clause-counted : goal.returns-clause-counted
returns-clause-counted c = search rules
