use Rattle.std.proofs.Common.{◌≡◌, drop}
use Rattle.std.specs.List.{list_all}
use Rattle.lsm_levels.specs.Levels.{all_tables}
use Rattle.lsm_levels.specs.Pick.{is_free}
use Rattle.lsm_levels.proofs.picking.are_all_free.Given as goal

abbrev pub invariant-loop-run : goal.invariant-loop-run
invariant-loop-run g l = list_all (is_free (g.H.HeldJobs.jobs l.held)) (all_tables (drop l.run-index l.runs)) ≡ list_all (is_free (g.H.HeldJobs.jobs l.held)) (all_tables l.runs)
