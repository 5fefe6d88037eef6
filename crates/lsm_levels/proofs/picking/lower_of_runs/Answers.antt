use Rattle.std.proofs.Common.{Option, option_map, ap, sym, ◌∙◌}
use Rattle.lsm_levels.specs.Tables.{KeyRange, meeting}
use Rattle.lsm_levels.specs.Hulls.{range_shown}
use Rattle.lsm_levels.specs.Levels.{all_tables}
use Rattle.lsm_levels.proofs.RunHulls.{onto_none}
use Rattle.lsm_levels.proofs.picking.lower_of_runs.Goals as goal

pub returns-in-Some : goal.returns-in-Some
returns-in-Some g c =
    c.meeting.ensures
    ∙ ap (λ (o : Option KeyRange). meeting o c.args.below.now) (sym (ap (option_map range_shown) c.in-Some.is) ∙ c.hull_of_runs.ensures ∙ onto_none (all_tables c.args.runs.now))

pub returns-in-None : goal.returns-in-None
returns-in-None g c =
    ap (λ (o : Option KeyRange). meeting o c.args.below.now) (sym (ap (option_map range_shown) c.in-None.is) ∙ c.hull_of_runs.ensures ∙ onto_none (all_tables c.args.runs.now))
