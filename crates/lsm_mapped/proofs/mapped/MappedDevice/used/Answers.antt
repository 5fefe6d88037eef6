use Rattle.lsm_mapped.proofs.Making.{many}
use Rattle.lsm_mapped.proofs.mapped.MappedDevice.used.Goals as goal

pub returns-clause-many : goal.returns-clause-many
returns-clause-many c = many _ _
