use Rattle.lsm_table.proofs.Borders.{data_block_laws}
use Rattle.lsm_table.proofs.laws.data_block_law.Goals as goal

pub returns : goal.returns
returns c = data_block_laws
