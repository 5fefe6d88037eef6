use Rattle.corwaphi_c.proofs.reading.corwaphi_store_get.Given as goal

abbrev pub ghost-get : goal.ghost-get
ghost-get g a = g.past
