use Rattle.lsm_open.proofs.CountedTables.{counts_stand}
use Rattle.lsm_open.proofs.counting_law.counts_leave_the_same.Goals as goal

pub returns : goal.returns
returns c = λ n left sectors is. counts_stand n sectors left is
