use Rattle.lsm_table.proofs.Adding.{block_laws}
use Rattle.lsm_table.proofs.laws.block_law.Goals as goal

pub returns : goal.returns
returns c = block_laws
