use Rattle.lsm_machine.proofs.Lifelong.{promise_over_lives}
use Rattle.lsm_machine.proofs.law.crashes_keep_beginnings.Goals as goal

pub returns : goal.returns
returns c = promise_over_lives
