use Rattle.lsm_lives.proofs.living.crash.Goals as goal

pub returns-clause-left : goal.returns-clause-left
returns-clause-left g c = c.crash.ensures.left
