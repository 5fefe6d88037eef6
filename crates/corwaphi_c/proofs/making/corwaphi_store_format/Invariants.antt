use Rattle.corwaphi_c.proofs.making.corwaphi_store_format.Given as goal

abbrev pub ghost-new : goal.ghost-new
ghost-new g a = g.past
