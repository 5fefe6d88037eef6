use Rattle.lsm_merge.proofs.Runs.{first_run}
use Rattle.lsm_merge.proofs.cutting.+longest.Goals as goal

pub returns-else-len-best-clause-ordered : goal.returns-else-len-best-clause-ordered
returns-else-len-best-clause-ordered g t c = rw c.deref.ensures.value (first_run c.args.runs.now c.in-Some.run'.now c.in-Some.others.now c.in-Some.ensures.cases.0 c.requires)
