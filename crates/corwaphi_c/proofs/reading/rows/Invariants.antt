use Rattle.corwaphi_c.proofs.reading.rows.Given as goal

abbrev pub ghost-new : goal.ghost-new
ghost-new g a = g.past
