use Rattle.std.proofs.Common.{refl, ap, sym, ◌∙◌}
use Rattle.lsm_lives.specs.declared.calls.Reply.TheVariants as reply
use Rattle.lsm_machine.specs.Machine.{Worked}
use Rattle.lsm_machine.specs.Work.{Ask}
use Rattle.lsm_trail.specs.History.{Event}
use Rattle.lsm_trail.specs.Knowledge.{Known}
use Rattle.lsm_shared.proofs.Holds.{place_left, none_left, may_follow, session_entered, entered_one, entered_step}
use Rattle.lsm_shared.proofs.Turning.{did_at, put_back_at}
use Rattle.lsm_shared.proofs.OwnWork.{put_back_full_was, put_back_short, works_inside, other_refusal}
use Rattle.lsm_shared.proofs.session.Session.refuse_build.Goals as goal

pub returns-then-is_full : goal.returns-then-is_full
returns-then-is_full g c = λ place at. put_back_at _ _ _ _ _ _ _ _ at (put_back_full_was _ _ _ _ c.self.view_is _ _ c.requires.seen (none_left _ _ _ c.is_full.ensures c.if-is_full.true))

pub returns-then-is_short : goal.returns-then-is_short
returns-then-is_short g c =
    let room = place_left _ _ _ c.is_full.ensures c.if-is_full.false c.self.invariant.room in
    λ place at. put_back_at _ _ _ _ _ _ _ _ at (put_back_short _ _ _ _ c.self.view_is _ _ _ c.requires.seen room c.if-is_short.ensures c.requires.refused.admitted)

pub enter-requires-clause-by : goal.enter-requires-clause-by
enter-requires-clause-by g c = ap (λ (e : Event). e.client) c.of_refused_build-entry.ensures ∙ sym c.me.invariant.1 ∙ ap (λ (k : Known). k.number) c.me.view_is

pub enter-requires-clause-may : goal.enter-requires-clause-may
enter-requires-clause-may g c =
    let works = works_inside _ _ _ _ _ c.self.view_is c.requires.refused in
    may_follow _ _ _ _ _ c.self.invariant (Worked (Ask c.args.job)) _ works _ _ _ c.of_refused_build-entry.ensures (other_refusal _ c.if-is_short.ensures) (λ same. cc) (λ same. cc) tt tt

pub enter-requires-clause-machine : goal.enter-requires-clause-machine
enter-requires-clause-machine g c = ap (λ (e : Event). e.machine) c.of_refused_build-entry.ensures

pub invariant_of-self : goal.invariant_of-self
invariant_of-self g c =
    let room = place_left _ _ _ c.is_full.ensures c.if-is_full.false c.self.invariant.room in
    let works = works_inside _ _ _ _ _ c.self.view_is c.requires.refused in
    session_entered _ _ _ _ _ c.self.invariant (Worked (Ask c.args.job)) _ works _ _ _ c.of_refused_build-entry.ensures _ c.enter.ensures.log c.enter.ensures.legal room

pub returns : goal.returns
returns g c =
    let room = place_left _ _ _ c.is_full.ensures c.if-is_full.false c.self.invariant.room in
    let works = works_inside _ _ _ _ _ c.self.view_is c.requires.refused in
    λ place at. did_at _ _ _ _ _ _ (Ask c.args.job) (reply.Refused c.args.refusal) at refl
    (entered_step _ _ _ _ _ _ _ _ _ _ refl refl
    (entered_one _ _ _ _ _ c.self.invariant (Worked (Ask c.args.job)) _ works _ _ _ c.of_refused_build-entry.ensures _ c.enter.ensures.log c.enter.ensures.legal room
    _ c.self.view_is _ _ c.requires.seen.finds (sym c.me.invariant.1 ∙ ap (λ (k : Known). k.number) c.me.view_is) c.enter.ensures.client))
