use Rattle.corwaphi_c.proofs.reading.corwaphi_store_rows.Given as goal

abbrev pub ghost-rows : goal.ghost-rows
ghost-rows g a = g.past
