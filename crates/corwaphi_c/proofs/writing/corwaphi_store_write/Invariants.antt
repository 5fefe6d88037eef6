use Rattle.corwaphi_c.proofs.writing.corwaphi_store_write.Given as goal

abbrev pub ghost-write : goal.ghost-write
ghost-write g a = g.past
