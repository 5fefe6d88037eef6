use Rattle.lsm_trail.proofs.beside.Beside.by_store.Given as goal

abbrev pub ghost-of : goal.ghost-of
ghost-of g a = g.shown
