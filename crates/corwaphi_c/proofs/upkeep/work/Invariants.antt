use Rattle.corwaphi_c.proofs.upkeep.work.Given as goal

abbrev pub ghost-new : goal.ghost-new
ghost-new g a = g.past
