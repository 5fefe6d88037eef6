use Rattle.lsm_shared.proofs.Places.{told_none}
use Rattle.lsm_shared.proofs.due.takes_in_none.Goals as goal

pub returns : goal.returns
returns g c = told_none _ _ _ c.can_be_read.ensures
