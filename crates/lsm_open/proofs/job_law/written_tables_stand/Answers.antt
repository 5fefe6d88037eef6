use Rattle.lsm_open.proofs.TableTexts.{table_stands}
use Rattle.lsm_open.proofs.Writing.{all_written}
use Rattle.lsm_open.proofs.job_law.written_tables_stand.Goals as goal

pub returns-clause-all : goal.returns-clause-all
returns-clause-all c = λ n d x is all. all_written n d x is all

pub returns-clause-stands : goal.returns-clause-stands
returns-clause-stands c = λ n base sectors t filter table blocks is high recorded members numbered counted. table_stands n base sectors t filter table blocks is high recorded members numbered counted
