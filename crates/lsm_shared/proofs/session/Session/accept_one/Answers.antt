use Rattle.std.proofs.Common.{Some, ap, sym, ◌∙◌, subst}
use Rattle.lsm_store.specs.Backing.{machine_of}
use Rattle.lsm_machine.specs.Calls.{Reply}
use Rattle.lsm_machine.specs.Machine.{Worked}
use Rattle.lsm_machine.specs.Work.{Accept}
use Rattle.lsm_store.specs.Working.{Works}
use Rattle.lsm_trail.specs.Knowledge.{Known}
use Rattle.lsm_shared.proofs.Giving.{accept_gives, work_gives}
use Rattle.lsm_shared.proofs.Holds.{denied_with, place_left, may_follow, session_entered, entered_one, entered_step}
use Rattle.lsm_shared.proofs.Lending.{may_take_was}
use Rattle.lsm_shared.proofs.OwnWork.{no_number, short_of_memory}
use Rattle.lsm_shared.proofs.session.Session.accept_one.Goals as goal

pub returns-in_err-answer : goal.returns-in_err-answer
returns-in_err-answer g c =
    let room = place_left _ _ _ c.is_full.ensures c.if-is_full.false c.self.invariant.room in
    let works = subst (λ (r : Reply). Works c.self.inside.store (Accept c.args.job (Some c.args.built.now)) r c.job_accept.new.self) (sym c.done-reply.ensures.reply) c.job_accept.ensures.works in
    denied_with _ _ _ _ _ c.from_residual.ensures.1 c.in_err-answer.ensures.0
    (short_of_memory _ _ _ _ works c.in_err-answer.ensures.1 _ _ _ c.self.view_is _ c.requires.seen room)

pub enter-requires-clause-may : goal.enter-requires-clause-may
enter-requires-clause-may g c =
    let works = subst (λ (r : Reply). Works c.self.inside.store (Accept c.args.job (Some c.args.built.now)) r c.job_accept.new.self) (sym c.done-reply.ensures.reply) c.job_accept.ensures.works in
    may_follow _ _ _ _ _ c.self.invariant (Worked (Accept c.args.job (Some c.args.built.now))) _ works _ _ _ c.of_accept-entry.ensures c.in_ok-answer.ensures.1 (work_gives _ _ _ _ works (accept_gives (machine_of c.self.inside.store) c.args.job (Some c.args.built.now))) (λ same. cc) (no_number _ c.done-reply.result _)
    (may_take_was _ _ _ _ _ c.self.view_is c.self.invariant.legal c.requires.seen c.args.built.now c.requires.lent c.are_tables.ensures)

pub invariant_of-self-2 : goal.invariant_of-self-2
invariant_of-self-2 g c =
    let room = place_left _ _ _ c.is_full.ensures c.if-is_full.false c.self.invariant.room in
    let works = subst (λ (r : Reply). Works c.self.inside.store (Accept c.args.job (Some c.args.built.now)) r c.job_accept.new.self) (sym c.done-reply.ensures.reply) c.job_accept.ensures.works in
    session_entered _ _ _ _ _ c.self.invariant (Worked (Accept c.args.job (Some c.args.built.now))) _ works _ _ _ c.of_accept-entry.ensures _ c.enter.ensures.log c.enter.ensures.legal room

pub returns : goal.returns
returns g c =
    let room = place_left _ _ _ c.is_full.ensures c.if-is_full.false c.self.invariant.room in
    let works = subst (λ (r : Reply). Works c.self.inside.store (Accept c.args.job (Some c.args.built.now)) r c.job_accept.new.self) (sym c.done-reply.ensures.reply) c.job_accept.ensures.works in
    entered_step _ _ _ _ _ _ _ _ _ _ c.in_ok-answer.ensures.0 c.done-reply.ensures.told
    (entered_one _ _ _ _ _ c.self.invariant (Worked (Accept c.args.job (Some c.args.built.now))) _ works _ _ _ c.of_accept-entry.ensures _ c.enter.ensures.log c.enter.ensures.legal room
    _ c.self.view_is _ _ c.requires.seen.finds (sym c.me.invariant.1 ∙ ap (λ (k : Known). k.number) c.me.view_is) c.enter.ensures.client)
