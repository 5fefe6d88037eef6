use Rattle.lsm_levels.proofs.Moving.{lower_law, moving_law}
use Rattle.lsm_levels.proofs.law.installs_move_tables.Goals as goal

pub returns-clause-moved : goal.returns-clause-moved
returns-clause-moved c = moving_law

pub returns-clause-lower : goal.returns-clause-lower
returns-clause-lower c = lower_law
