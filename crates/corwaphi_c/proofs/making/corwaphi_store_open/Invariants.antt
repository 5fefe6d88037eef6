use Rattle.corwaphi_c.proofs.making.corwaphi_store_open.Given as goal

abbrev pub ghost-open_kept : goal.ghost-open_kept
ghost-open_kept g a = g.past
