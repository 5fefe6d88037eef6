use Rattle.lsm_table.specs.Division.{entries_of}
use Rattle.lsm_levels.proofs.table.PlacedTable.of_image.Given as goal

abbrev pub ghost-open_image : goal.ghost-open_image
ghost-open_image g a = entries_of a.image.now
