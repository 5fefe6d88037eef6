use Rattle.std.proofs.Common.{ap, ◌∙◌, sym, subst, Contains}
use Rattle.lsm_extent.specs.declared.extent.Extent.{Extent}
use Rattle.lsm_extent.specs.Area.{given_back}
use Rattle.lsm_extent.specs.Laws.{Frees}
use Rattle.lsm_jobs.proofs.Placed.{extent_is, last_held, others_held, back_step}
use Rattle.lsm_jobs.proofs.ending.give_back.Goals as goal

pub give-requires : goal.give-requires
give-requires g c =
    let is = extent_is c.first_block.result c.blocks-in-loop-table.result c.in-Some.table.now c.first_block.ensures c.blocks-in-loop-table.ensures in
    subst (λ (e : Extent). Contains c.loop-table.extents.held e) (sym is) (last_held c.next.new.self.iter.rest.now c.loop-table.table-iterator.iter.rest.now c.in-Some.table.now c.loop-table.extents c.in-Some.ensures.steps c.loop-table.invariant.held)

pub loop-table-preserved : goal.loop-table-preserved
loop-table-preserved g c =
    let is = extent_is c.first_block.result c.blocks-in-loop-table.result c.in-Some.table.now c.first_block.ensures c.blocks-in-loop-table.ensures in
    let left = c.next.new.self.iter.rest.now in
    let more = c.loop-table.table-iterator.iter.rest.now in
    let old = c.loop-table.extents in
    record {
      held = others_held left more c.in-Some.table.now old c.give.new.self c.in-Some.ensures.steps (subst (λ (e : Extent). Frees e old c.give.new.self) is c.give.ensures.frees) c.loop-table.invariant.held;
      done = back_step left more c.in-Some.table.now old c.give.new.self c.in-Some.ensures.steps (c.give.ensures.given ∙ ap (λ (e : Extent). given_back e old) is) ∙ c.loop-table.invariant.done;
    }
