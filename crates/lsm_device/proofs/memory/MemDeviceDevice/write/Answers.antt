use Rattle.std.proofs.Common.{rules}
use Rattle.lsm_device.proofs.memory.MemDeviceDevice.write.Goals as goal

pub returns-clause-goes_well : goal.returns-clause-goes_well
returns-clause-goes_well g c = search rules

pub returns-clause-pends : goal.returns-clause-pends
returns-clause-pends g c = search rules

pub returns-clause-may_pend : goal.returns-clause-may_pend
returns-clause-may_pend g c = search rules

pub returns-clause-counted : goal.returns-clause-counted
returns-clause-counted g c = search rules
