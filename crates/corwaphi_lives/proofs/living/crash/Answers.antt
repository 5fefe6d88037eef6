use Rattle.corwaphi_lives.proofs.living.crash.Goals as goal

pub returns : goal.returns
returns c = c.crash.ensures.left
