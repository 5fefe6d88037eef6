use Rattle.std.proofs.Common.{◌≡◌, option_map}
use Rattle.lsm_levels.specs.Hulls.{range_shown, hull_onto}
use Rattle.lsm_levels.specs.Levels.{all_tables}
use Rattle.lsm_levels.proofs.hulls.hull_of_runs.Given as goal

abbrev pub invariant-loop-run : goal.invariant-loop-run
invariant-loop-run g l = hull_onto (all_tables l.run-iterator.iter.rest.now) (option_map range_shown l.hull) ≡ hull_onto (all_tables l.runs) (option_map range_shown l.rest)
