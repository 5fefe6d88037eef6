use Rattle.std.proofs.Common.{inl}
use Rattle.lsm_upkeep.proofs.Lacks.{step_taken}
use Rattle.lsm_upkeep.proofs.lacking.lack_of_advice.Goals as goal

pub returns-in-Take : goal.returns-in-Take
returns-in-Take g c = inl (step_taken c.args.store.now c.args.advice c.in-Take._step c.in-Take.is c.requires)
