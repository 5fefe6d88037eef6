use Rattle.std.proofs.Common.{◌∙◌, Err, List, ap, subst, rules}
use Rattle.std.proofs.lemmas.Result.{err_from_is_err_and}
use Rattle.std.specs.Arc.{arc_value}
use Rattle.lsm_device.specs.declared.refusal.Refusal.{Refusal}
use Rattle.lsm_table.specs.Division.{TableBlocks}
use Rattle.lsm_jobs.specs.Slots.{slot_of}
use Rattle.lsm_jobs.specs.Placing.{IsPlacing}
use Rattle.lsm_jobs.proofs.Accepted.{own_input, kept_same, refused_so}
use Rattle.lsm_jobs.proofs.slots.Slots.accept_own.Goals as goal

pub returns-then-count-next_table-clause-refused : goal.returns-then-count-next_table-clause-refused
returns-then-count-next_table-clause-refused g c =
    (c.requires.own, search rules)

pub outputs_of-requires-clause-kept : goal.outputs_of-requires-clause-kept
outputs_of-requires-clause-kept g c =
    let same = own_input c.args.job c.in_ok-place.place c.args.self.now.slots (arc_value c.in_ok-place.input.now) c.args.built.now.input c.in_ok-place.ensures.found c.requires.own in
    kept_same (arc_value c.in_ok-place.input.now) c.args.built.now (arc_value c.images-images.result.now).items same c.images-images.ensures.same c.images-images.ensures.kept

pub returns-in_err-outputs-clause-refused : goal.returns-in_err-outputs-clause-refused
returns-in_err-outputs-clause-refused g c =
    let p = err_from_is_err_and c.from_residual-in_err-outputs.result c.from_residual-in_err-outputs.ensures.1 in
    rw (p.1, p.2) (
    refused_so c.args.next_table c.args.built.now.input c.args.built.now.images (arc_value c.images-images.result.now).items c.args.extents.now (slot_of c.args.job c.args.self.now.slots) c.in_err-outputs.field-0.0
    c.requires.own (search rules)
    c.images-images.ensures.same (λ e. c.in_err-outputs.ensures.no_space (ap (λ (r : Refusal). Err r) e)) c.in_err-outputs.ensures.refusals
    )

pub returns-clause-accepted : goal.returns-clause-accepted
returns-clause-accepted g c =
    let same = own_input c.args.job c.in_ok-place.place c.args.self.now.slots (arc_value c.in_ok-place.input.now) c.args.built.now.input c.in_ok-place.ensures.found c.requires.own in
    let found = c.in_ok-place.ensures.found in
    record {
      slot = found.slot;
      found = found.at.is;
      frozen = found.frozen;
      own = found.own ∙ same;
      numbers = search rules;
      tables = c.in_ok-outputs.outputs.tables;
      placing = subst (λ (images : List TableBlocks). IsPlacing c.args.next_table images c.args.extents.now c.outputs_of.new.extents c.in_ok-outputs.outputs.tables) c.images-images.ensures.same c.in_ok-outputs.ensures.placing;
      staged = search rules;
    }
