use Rattle.lsm_root.proofs.Openings.{again}
use Rattle.lsm_open.proofs.law.openings_leave_the_same.Goals as goal

pub returns : goal.returns
returns c = λ first last openings fits left. again first last openings fits left
