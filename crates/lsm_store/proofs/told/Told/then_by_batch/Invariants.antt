use Rattle.lsm_store.proofs.told.Told.then_by_batch.Given as goal

abbrev pub ghost-of : goal.ghost-of
ghost-of g a = g.state
