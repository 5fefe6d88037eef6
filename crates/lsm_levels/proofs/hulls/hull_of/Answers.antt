use Rattle.std.proofs.Common.{◌∙◌}
use Rattle.lsm_levels.proofs.RunHulls.{onto_none}
use Rattle.lsm_levels.proofs.hulls.hull_of.Goals as goal

pub returns : goal.returns
returns g c = c.hull_onto.ensures ∙ onto_none c.args.tables.now
