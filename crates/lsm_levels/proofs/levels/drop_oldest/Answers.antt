use Rattle.std.proofs.Common.{◌≡◌, List, take, ◌∙◌, subst}
use Rattle.lsm_levels.specs.Tables.{Table}
use Rattle.lsm_levels.specs.Levels.{newer_runs}
use Rattle.lsm_levels.proofs.levels.drop_oldest.Goals as goal

pub returns : goal.returns
returns g c =
    c.truncate.ensures.items
    ∙ subst (λ (rs : List (List Table)). take c.count_newer-kept.result rs ≡ newer_runs c.args.tables rs) c.deref.ensures.value c.count_newer-kept.ensures
