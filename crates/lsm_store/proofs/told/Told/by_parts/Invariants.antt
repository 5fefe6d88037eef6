use Rattle.lsm_store.proofs.told.Told.by_parts.Given as goal

abbrev pub ghost-of : goal.ghost-of
ghost-of g a = g.state
