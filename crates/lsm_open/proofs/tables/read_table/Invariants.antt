use Rattle.lsm_open.proofs.tables.read_table.Given as goal

abbrev pub ghost-open : goal.ghost-open
ghost-open g a = g.versions
