use Rattle.std.proofs.Common.{◌∙◌, Err, ap, sym, subst, Contains}
use Rattle.std.proofs.lemmas.Result.{err_from_is_err_and}
use Rattle.lsm_device.specs.declared.refusal.Refusal.{Refusal}
use Rattle.lsm_device.specs.declared.refusal.Refusal.TheVariants.{NoSpace}
use Rattle.lsm_extent.specs.Area.{Area, HasNoFit, handed_out}
use Rattle.lsm_extent.specs.declared.extent.Extent.{Extent}
use Rattle.lsm_extent.proofs.ExtentLaws.{contains-with}
use Rattle.lsm_jobs.proofs.Placed.{same_refusal, same_extent, placed_is, undone_is, held_is, back_again}
use Rattle.lsm_jobs.proofs.placing.place.Goals as goal

pub give-requires : goal.give-requires
give-requires g c = subst (λ (a : Area). Contains a.held c.in_ok-extent.extent) (sym c.in_ok-extent.ensures.held) (contains-with c.in_ok-extent.extent c.args.extents.now.held)

pub returns-in-Ok-clause-placed : goal.returns-in-Ok-clause-placed
returns-in-Ok-clause-placed g c =
    placed_is c.args.number c.args.extents.now c.args.image.now c.in-Ok.table c.in_ok-extent.extent c.extent_blocks-blocks.result c.extent_blocks-blocks.ensures.table c.in-Ok.ensures.placed c.in_ok-extent.ensures.length c.extent_blocks-blocks.ensures.value c.in_ok-extent.ensures.lowest c.partition.ensures

pub returns-in-Ok-clause-taken : goal.returns-in-Ok-clause-taken
returns-in-Ok-clause-taken g c =
    let same = same_extent c.args.number c.args.extents.now c.args.image.now c.in-Ok.table c.in_ok-extent.extent c.extent_blocks-blocks.result c.extent_blocks-blocks.ensures.table c.in-Ok.ensures.placed c.in_ok-extent.ensures.length c.extent_blocks-blocks.ensures.value c.in_ok-extent.ensures.lowest c.partition.ensures in
    c.in_ok-extent.ensures.held ∙ ap (λ (x : Extent). handed_out x c.args.extents.now) same

pub returns-in-Ok-clause-undone : goal.returns-in-Ok-clause-undone
returns-in-Ok-clause-undone g c =
    undone_is c.args.number c.args.extents.now c.args.image.now c.in-Ok.table c.in_ok-extent.extent c.extent_blocks-blocks.result c.extent_blocks-blocks.ensures.table c.in-Ok.ensures.placed c.in_ok-extent.ensures.length c.extent_blocks-blocks.ensures.value c.in_ok-extent.ensures.lowest c.partition.ensures c.take.new.self c.in_ok-extent.ensures.held

pub returns-in-Ok-clause-held : goal.returns-in-Ok-clause-held
returns-in-Ok-clause-held g c =
    held_is c.args.number c.args.extents.now c.args.image.now c.in-Ok.table c.in_ok-extent.extent c.extent_blocks-blocks.result c.extent_blocks-blocks.ensures.table c.in-Ok.ensures.placed c.in_ok-extent.ensures.length c.extent_blocks-blocks.ensures.value c.in_ok-extent.ensures.lowest c.partition.ensures c.take.new.self c.in_ok-extent.ensures.held

pub returns-in-Err-clause-unchanged : goal.returns-in-Err-clause-unchanged
returns-in-Err-clause-unchanged g c =
    back_again c.args.extents.now c.in_ok-extent.extent c.extent_blocks-blocks.result c.extent_blocks-blocks.ensures.some c.in_ok-extent.ensures.length c.in_ok-extent.ensures.lowest c.partition.ensures c.take.new.self c.give.new.self c.in_ok-extent.ensures.held c.give.ensures.given

pub returns-in_err-extent-clause-no_space : goal.returns-in_err-extent-clause-no_space
returns-in_err-extent-clause-no_space g c =
    let p = err_from_is_err_and c.from_residual-in_err-extent.result c.from_residual-in_err-extent.ensures.1 in
    rw (p.1, p.2) (λ e. subst (HasNoFit c.args.extents.now) c.extent_blocks-blocks.ensures.value (c.in_err-extent.ensures.no_space.0 (ap (λ (r : Refusal). Err r) (same_refusal c.in_err-extent.field-0.0 NoSpace e))))
