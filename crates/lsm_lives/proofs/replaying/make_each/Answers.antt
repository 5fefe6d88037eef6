use Rattle.std.proofs.Common.{List, [], ◌∷◌, ◌++◌, map, length, arith, refl, sym, subst, ◌∙◌, ap, append_assoc}
use Rattle.std.proofs.lemmas.List.{append-nil, drop_all}
use Rattle.lsm_merge.specs.Results.{MergeResult}
use Rattle.lsm_lives.specs.Asked.{Asked, Told}
use Rattle.lsm_lives.specs.declared.calls.Step.{Step as GivenStep}
use Rattle.lsm_lives.specs.Calls.{asked_of, told_of}
use Rattle.lsm_lives.specs.Replaying.{AddsReplies, MakesEach}
use Rattle.lsm_lives.proofs.Steps.{next_step, reply_added}
use Rattle.lsm_lives.proofs.replaying.make_each.Goals as goal

pub loop-step-init : goal.loop-step-init
loop-step-init g c = record {
  within = omega arith;
  length_is = omega arith;
  capacity = refl;
  built = omega (arith, ap length c.requires.none_built);
  same_places = refl;
  goes_on = λ more last makes. record { more = more; added = refl; makes = subst (λ (results : List MergeResult). MakesEach results c.args.store.now (map asked_of c.args.steps.now) more last) c.requires.none_built makes };
}

pub loop-step-preserved : goal.loop-step-preserved
loop-step-preserved g c =
    let inv = c.loop-step.invariant in
    let i = c.loop-step.step-index in
    let steps = c.args.steps.now in
    let step = c.step-item.result in
    let done = c.loop-step.replies.items in
    let reply = c.make-reply.result in
    let made = c.make-reply.ensures in
    record {
      within = omega arith;
      length_is = omega arith;
      capacity = c.push_reserved.ensures.capacity ∙ inv.capacity;
      built = omega (arith, made.places.1, inv.built);
      same_places = made.places.0 ∙ inv.same_places;
      goes_on = λ more last each.
          let all = inv.goes_on (told_of reply ∷ more) last
          (subst (λ (all : List Asked). MakesEach c.loop-step.results.items c.loop-step.store all (told_of reply ∷ more) last) (sym (next_step steps i step c.loop-step-test.true c.step-item.is))
          (c.make-reply.new.results.items, c.make-reply.new.store, made.makes, each)) in
          subst (λ (after : List Told). AddsReplies c.args.store.now (map asked_of steps) (map told_of c.args.replies.now.items) after last)
          (sym (append_assoc (map told_of done) (told_of reply ∷ []) more)
          ∙ ap (λ (l : List Told). l ++ more) (sym (reply_added done c.push_reserved.new.self.items reply c.push_reserved.ensures.items))) all;
    }

pub returns-clause-same_places : goal.returns-clause-same_places
returns-clause-same_places g c = c.loop-step.invariant.same_places

pub returns-clause-adds : goal.returns-clause-adds
returns-clause-adds g c =
    let steps = c.args.steps.now in
    let s = c.loop-step.store in
    subst (λ (after : List Told). AddsReplies c.args.store.now (map asked_of steps) (map told_of c.args.replies.now.items) after s) (append-nil (map told_of c.loop-step.replies.items))
    (c.loop-step.invariant.goes_on [] s (subst (λ (left : List (GivenStep g.row.A.Denot)). MakesEach c.loop-step.results.items s (map asked_of left) [] s) (sym (drop_all c.loop-step.step-index steps (omega arith))) refl))
