use Rattle.std.proofs.Common.{[], refl, ap, sym, ◌∙◌}
use Rattle.lsm_merge.specs.Inputs.{MergeInput}
use Rattle.lsm_store.specs.Backing.{machine_of}
use Rattle.lsm_machine.specs.Machine.{Worked}
use Rattle.lsm_trail.specs.History.{lent_to}
use Rattle.lsm_machine.specs.Work.{Ask}
use Rattle.lsm_trail.specs.Knowledge.{Known}
use Rattle.lsm_shared.proofs.Holds.{place_left, none_left, session_entered, entered_one}
use Rattle.lsm_shared.proofs.Turning.{lent_at, put_back_at}
use Rattle.lsm_shared.proofs.OwnWork.{put_back_full_was, works_inside}
use Rattle.lsm_shared.proofs.session.Session.lend.Goals as goal

pub returns-then-is_full : goal.returns-then-is_full
returns-then-is_full g c = λ place at. put_back_at _ _ _ _ _ _ _ _ at (put_back_full_was _ _ _ _ c.self.view_is _ _ c.requires.seen (none_left _ _ _ c.is_full.ensures c.if-is_full.true))

pub invariant_of-self : goal.invariant_of-self
invariant_of-self g c =
    let room = place_left _ _ _ c.is_full.ensures c.if-is_full.false c.self.invariant.room in
    let works = works_inside _ _ _ _ _ c.self.view_is c.requires.lent in
    session_entered _ _ _ _ _ c.self.invariant (Worked (Ask c.args.job)) _ works _ _ _ (c.of_build-entry.ensures ∙ ap (λ (x : MergeInput). lent_to c.me.inside.number c.args.job x c.next_result-result.result (machine_of c.self.inside.store)) c.deref.ensures) _ c.enter.ensures.log c.enter.ensures.legal room

pub returns : goal.returns
returns g c =
    let room = place_left _ _ _ c.is_full.ensures c.if-is_full.false c.self.invariant.room in
    let works = works_inside _ _ _ _ _ c.self.view_is c.requires.lent in
    let one = entered_one _ _ _ _ _ c.self.invariant (Worked (Ask c.args.job)) _ works _ _ _ (c.of_build-entry.ensures ∙ ap (λ (x : MergeInput). lent_to c.me.inside.number c.args.job x c.next_result-result.result (machine_of c.self.inside.store)) c.deref.ensures) _ c.enter.ensures.log c.enter.ensures.legal room
    _ c.self.view_is _ _ c.requires.seen.finds (sym c.me.invariant.1 ∙ ap (λ (k : Known). k.number) c.me.view_is) c.enter.ensures.client in
    λ place at. lent_at _ _ _ _ _ _ _ _ _ at refl one (λ are. ([], _, refl, are)) tt
