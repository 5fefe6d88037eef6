use Rattle.lsm_machine.specs.Work.{Write}
use Rattle.lsm_upkeep.specs.Finishing.{HasLeft}
use Rattle.lsm_upkeep.proofs.finishing.write.Given as goal

abbrev pub invariant-loop-left : goal.invariant-loop-left
invariant-loop-left g l = HasLeft (Write l.job) l.left l.fn.store l.store

abbrev pub decreases-loop-left : goal.decreases-loop-left
decreases-loop-left g l = l.left
