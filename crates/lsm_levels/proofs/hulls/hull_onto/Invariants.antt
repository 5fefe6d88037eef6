use Rattle.std.proofs.Common.{◌≡◌, option_map}
use Rattle.lsm_levels.specs.Hulls.{range_shown, hull_onto}
use Rattle.lsm_levels.proofs.hulls.hull_onto.Given as goal

abbrev pub invariant-loop-table : goal.invariant-loop-table
invariant-loop-table g l = hull_onto l.table-iterator.iter.rest.now (option_map range_shown l.hull) ≡ hull_onto l.tables (option_map range_shown l.rest)
