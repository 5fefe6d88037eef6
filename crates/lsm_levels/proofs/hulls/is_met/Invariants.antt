use Rattle.std.proofs.Common.{◌≡◌, drop}
use Rattle.std.specs.List.{list_any}
use Rattle.lsm_levels.specs.Tables.{meets}
use Rattle.lsm_levels.specs.Hulls.{range_shown}
use Rattle.lsm_levels.specs.Levels.{all_tables}
use Rattle.lsm_levels.proofs.hulls.is_met.Given as goal

abbrev pub invariant-loop-run : goal.invariant-loop-run
invariant-loop-run g l = list_any (meets (range_shown l.range)) (all_tables (drop l.run-index l.runs)) ≡ list_any (meets (range_shown l.range)) (all_tables l.runs)
