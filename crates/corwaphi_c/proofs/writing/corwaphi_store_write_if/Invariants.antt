use Rattle.corwaphi_c.proofs.writing.corwaphi_store_write_if.Given as goal

abbrev pub ghost-write_if : goal.ghost-write_if
ghost-write_if g a = g.past
