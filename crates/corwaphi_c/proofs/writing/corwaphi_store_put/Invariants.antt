use Rattle.corwaphi_c.proofs.writing.corwaphi_store_put.Given as goal

abbrev pub ghost-put : goal.ghost-put
ghost-put g a = g.past
