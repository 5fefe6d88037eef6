use Rattle.corwaphi_c.proofs.writing.corwaphi_store_delete.Given as goal

abbrev pub ghost-delete : goal.ghost-delete
ghost-delete g a = g.past
