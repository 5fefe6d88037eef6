use Rattle.corwaphi_c.proofs.lasting.make.Given as goal

abbrev pub ghost-new : goal.ghost-new
ghost-new g a = g.past
