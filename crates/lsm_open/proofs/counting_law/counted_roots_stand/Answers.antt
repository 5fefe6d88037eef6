use Rattle.lsm_open.proofs.UncountedTables.{counted_stand}
use Rattle.lsm_open.proofs.counting_law.counted_roots_stand.Goals as goal

pub returns : goal.returns
returns c = λ n m sectors root holds. counted_stand n sectors m root holds
