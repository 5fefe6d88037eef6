use Rattle.lsm_table.proofs.TableCounts.{table_count_laws}
use Rattle.lsm_table.proofs.laws.table_count_law.Goals as goal

pub returns : goal.returns
returns c = table_count_laws
