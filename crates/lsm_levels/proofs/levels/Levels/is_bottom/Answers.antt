use Rattle.std.proofs.Common.{[], ◌∷◌, Some, option_map, refl, ap, sym, ◌∙◌}
use Rattle.lsm_levels.specs.Hulls.{range_shown}
use Rattle.lsm_levels.specs.Levels.{all_tables}
use Rattle.lsm_levels.specs.Pick.{is_bottom}
use Rattle.lsm_levels.specs.Picks.{job_of}
use Rattle.lsm_levels.proofs.BottomLaws.{flag_is}
use Rattle.lsm_levels.proofs.RunHulls.{onto_none}
use Rattle.lsm_levels.proofs.levels.Levels.is_bottom.Goals as goal

pub returns-in-OldestRuns : goal.returns-in-OldestRuns
returns-in-OldestRuns g c =
    flag_is c.args.self.now 0 (all_tables c.in-OldestRuns.runs.now) c.in-OldestRuns.lower.now (option_map range_shown c.hull_onto.result) (option_map range_shown c.hull_of_runs.result) c.meets_none_below.result c.hull_onto.ensures c.hull_of_runs.ensures c.meets_none_below.ensures
    ∙ sym (ap (λ job. is_bottom c.args.self.now (job_of job)) c.in-OldestRuns.is)

pub returns-in-OneTable : goal.returns-in-OneTable
returns-in-OneTable g c =
    flag_is c.args.self.now c.in-OneTable.level (c.in-OneTable.upper.now ∷ []) c.in-OneTable.lower.now (option_map range_shown c.hull_onto-in-OneTable.result) (Some (range_shown c.spanned.result)) c.meets_none_below-in-OneTable.result c.hull_onto-in-OneTable.ensures (ap Some c.spanned.ensures) c.meets_none_below-in-OneTable.ensures
    ∙ sym (ap (λ job. is_bottom c.args.self.now (job_of job)) c.in-OneTable.is)

pub returns-in-Neighbours : goal.returns-in-Neighbours
returns-in-Neighbours g c =
    flag_is c.args.self.now c.in-Neighbours.level c.in-Neighbours.upper.now c.in-Neighbours.lower.now (option_map range_shown c.hull_onto-in-Neighbours.result) (option_map range_shown c.hull_onto-in-Neighbours-2.result) c.meets_none_below-in-Neighbours.result c.hull_onto-in-Neighbours.ensures c.hull_onto-in-Neighbours-2.ensures c.meets_none_below-in-Neighbours.ensures
    ∙ sym (ap (λ job. is_bottom c.args.self.now (job_of job)) c.in-Neighbours.is)

pub returns-in-Rewrite : goal.returns-in-Rewrite
returns-in-Rewrite g c =
    flag_is c.args.self.now c.in-Rewrite.above [] c.in-Rewrite.tables.now (option_map range_shown c.hull_of.result) (option_map range_shown c.hull_of.result) c.meets_none_below-in-Rewrite.result (c.hull_of.ensures ∙ sym (onto_none c.in-Rewrite.tables.now)) refl c.meets_none_below-in-Rewrite.ensures
    ∙ sym (ap (λ job. is_bottom c.args.self.now (job_of job)) c.in-Rewrite.is)
