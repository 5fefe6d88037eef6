use Rattle.corwaphi_c.proofs.upkeep.corwaphi_store_work.Given as goal

abbrev pub ghost-work : goal.ghost-work
ghost-work g a = g.past
