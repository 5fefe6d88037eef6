use Rattle.std.proofs.Common.{rules}
use Rattle.lsm_codec.specs.LogSectors.{log_sector}
use Rattle.lsm_codec.proofs.log_sector.LogSector.encode.Goals as goal

pub returns : goal.returns
unfolding log_sector
returns c = search rules
