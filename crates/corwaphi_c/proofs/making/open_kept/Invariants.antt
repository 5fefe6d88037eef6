use Rattle.corwaphi_c.proofs.making.open_kept.Given as goal

abbrev pub ghost-new : goal.ghost-new
ghost-new g a = g.past
