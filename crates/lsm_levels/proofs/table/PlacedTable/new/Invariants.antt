use Rattle.lsm_levels.proofs.table.PlacedTable.new.Given as goal

abbrev pub ghost-of : goal.ghost-of
ghost-of g a = g.versions
