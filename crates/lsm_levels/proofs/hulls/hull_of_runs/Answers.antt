use Rattle.std.proofs.Common.{List, option_map, ap, ◌∙◌}
use Rattle.lsm_levels.specs.Tables.{Table}
use Rattle.lsm_levels.specs.Hulls.{range_shown, hull_onto}
use Rattle.lsm_levels.proofs.RunHulls.{onto_runs_step}
use Rattle.lsm_levels.proofs.hulls.hull_of_runs.Goals as goal

pub loop-run-preserved : goal.loop-run-preserved
loop-run-preserved g c =
    onto_runs_step c.next.new.self.iter.rest.now c.loop-run.run-iterator.iter.rest.now c.in-Some.run'.now (option_map range_shown c.loop-run.hull) (option_map range_shown c.run_hull_onto-hull.result)
    (c.run_hull_onto-hull.ensures ∙ ap (λ (ts : List Table). hull_onto ts (option_map range_shown c.loop-run.hull)) c.tables.ensures.same) c.in-Some.ensures.steps
    ∙ c.loop-run.invariant
