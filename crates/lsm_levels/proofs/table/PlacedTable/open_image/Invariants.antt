use Rattle.lsm_levels.proofs.table.PlacedTable.open_image.Given as goal

abbrev pub ghost-open_sized : goal.ghost-open_sized
ghost-open_sized g a = g.versions
