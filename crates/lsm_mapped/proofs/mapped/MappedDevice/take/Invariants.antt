use Rattle.std.proofs.Common.{[], ◌∷◌}
use Rattle.lsm_device.specs.Disk.{at_rest}
use Rattle.lsm_mapped.specs.Disks.{mapped_sectors}
use Rattle.lsm_mapped.proofs.mapped.MappedDevice.take.Given as goal

abbrev pub ghost-new : goal.ghost-new
ghost-new a = at_rest (mapped_sectors 0 []) ∷ []
