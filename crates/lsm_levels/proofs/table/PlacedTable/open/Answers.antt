use Rattle.lsm_levels.proofs.EntrySizes.{entries_small}
use Rattle.lsm_levels.proofs.table.PlacedTable.open.Goals as goal

-- no entry takes more than the limits let it
pub open_sized-requires : goal.open_sized-requires
open_sized-requires g c κs within = (within, entries_small g.versions)
