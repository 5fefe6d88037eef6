use Rattle.std.proofs.Common.{◌≡◌, [], List, Some, option_map, sym, ap, ◌∙◌, subst}
use Rattle.lsm_levels.specs.Tables.{Table}
use Rattle.lsm_levels.specs.Pick.{Merge, is_bottom}
use Rattle.lsm_levels.specs.Picks.{job_of}
use Rattle.lsm_levels.specs.Choices.{chosen}
use Rattle.lsm_levels.specs.Held.{HasItsTables}
use Rattle.lsm_levels.specs.declared.choosing.Choice.TheVariants.{Rewrite}
use Rattle.test_levels.proofs.levels.rewriting.taken.Goals as goal

pub returns-in-Ok : goal.returns-in-Ok
returns-in-Ok c =
    let levels = c.args.levels.now in
    let above = c.in-Some-Rewrite.above in
    let tables = c.in-Some-Rewrite.tables.now in
    let is : chosen levels [] (Rewrite c.args.number c.args.number) ≡ Some (Merge above [] tables) = sym c.choose.ensures ∙ ap (option_map job_of) (c.in-Some-Rewrite.is ∙ ap Some c.in-Some-Rewrite.field-0-is) in
    let may = c.chosen_jobs_have_free_tables.ensures levels [] (Rewrite c.args.number c.args.number) (Merge above [] tables) c.runs-runs.ensures.runs is in
    subst (λ (ts : List Table). HasItsTables levels (is_bottom levels (Merge above [] ts)) above [] ts) (sym c.in-Ok.ensures) may.held
