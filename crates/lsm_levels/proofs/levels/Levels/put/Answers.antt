use Rattle.std.proofs.Common.{◌<◌, length, sym, ◌∙◌, subst}
use Rattle.std.proofs.lemmas.List.{length-set}
use Rattle.std.specs.List.{AllByRecursion}
use Rattle.lsm_levels.specs.Tables.{IsRun}
use Rattle.lsm_levels.specs.Hulls.{range_shown}
use Rattle.lsm_levels.specs.Levels.{reach}
use Rattle.lsm_levels.proofs.Merging.{hull_in_order, no_reach}
use Rattle.lsm_levels.proofs.OldestRuns.{all_newer}
use Rattle.lsm_levels.proofs.Runs.{all_set}
use Rattle.lsm_levels.proofs.levels.Levels.put.Goals as goal

pub returns-in_default-clause-moved : goal.returns-in_default-clause-moved
returns-in_default-clause-moved g c = absurd (no_reach (reach c.args.upper.now c.args.lower.now) c.in_default.ensures c.requires.some)

pub replace-requires-clause-range : goal.replace-requires-clause-range
replace-requires-clause-range g c = hull_in_order (reach c.args.upper.now c.args.lower.now) (range_shown c.in-Some.range) c.in-Some.ensures c.requires.range

pub remove-requires : goal.remove-requires
remove-requires g c = hull_in_order (reach c.args.upper.now c.args.lower.now) (range_shown c.in-Some.range) c.in-Some.ensures c.requires.range

pub invariant_of-self-then-level-eq0 : goal.invariant_of-self-then-level-eq0
invariant_of-self-then-level-eq0 g c = record {
  four = length-set c.self.inside.deeper.items c.args.level c.replace.new.self ∙ c.self.invariant.four;
  runs = subst (AllByRecursion IsRun) (sym c.drop_oldest.ensures) (all_newer IsRun (length c.args.upper.now) c.self.inside.runs.items c.self.invariant.runs);
  deeper = all_set IsRun c.self.inside.deeper.items c.args.level c.replace.new.self c.self.invariant.deeper c.in_ok-replace.ensures.stays;
  some = subst (AllByRecursion (λ run. 0 < length run)) (sym c.drop_oldest.ensures) (all_newer (λ run. 0 < length run) (length c.args.upper.now) c.self.inside.runs.items c.self.invariant.some);
}

pub invariant_of-self-else-level-eq0 : goal.invariant_of-self-else-level-eq0
invariant_of-self-else-level-eq0 g c = record {
  four = length-set _ _ c.remove.new.self ∙ length-set c.self.inside.deeper.items c.args.level c.replace.new.self ∙ c.self.invariant.four;
  runs = c.self.invariant.runs;
  deeper = all_set IsRun _ _ c.remove.new.self (all_set IsRun c.self.inside.deeper.items c.args.level c.replace.new.self c.self.invariant.deeper c.in_ok-replace.ensures.stays) c.remove.ensures.stays;
  some = c.self.invariant.some;
}
