use Rattle.lsm_store.proofs.told.Told.then_by_flag.Given as goal

abbrev pub ghost-of : goal.ghost-of
ghost-of g a = g.state
