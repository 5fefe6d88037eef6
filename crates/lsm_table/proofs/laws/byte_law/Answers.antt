use Rattle.lsm_table.proofs.ByteCounts.{byte_laws}
use Rattle.lsm_table.proofs.laws.byte_law.Goals as goal

pub returns : goal.returns
returns c = byte_laws
