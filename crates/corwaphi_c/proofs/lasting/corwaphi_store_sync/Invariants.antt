use Rattle.corwaphi_c.proofs.lasting.corwaphi_store_sync.Given as goal

abbrev pub ghost-make : goal.ghost-make
ghost-make g a = g.past
