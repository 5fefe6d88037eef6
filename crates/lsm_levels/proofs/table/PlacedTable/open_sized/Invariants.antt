use Rattle.lsm_levels.proofs.table.PlacedTable.open_sized.Given as goal

abbrev pub ghost-new : goal.ghost-new
ghost-new g a = g.versions
