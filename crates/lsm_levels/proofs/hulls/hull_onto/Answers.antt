use Rattle.std.proofs.Common.{option_map, ◌∙◌}
use Rattle.lsm_levels.specs.Hulls.{range_shown}
use Rattle.lsm_levels.proofs.BottomLaws.{onto_step}
use Rattle.lsm_levels.proofs.hulls.hull_onto.Goals as goal

pub loop-table-preserved : goal.loop-table-preserved
loop-table-preserved g c =
    onto_step c.next.new.self.iter.rest.now c.loop-table.table-iterator.iter.rest.now c.in-Some.table.now (option_map range_shown c.loop-table.hull) (range_shown c.spanned.result) c.spanned.ensures c.in-Some.ensures.steps
    ∙ c.loop-table.invariant
