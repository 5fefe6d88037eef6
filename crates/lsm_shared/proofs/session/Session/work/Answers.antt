use Rattle.std.proofs.Common.{ap, sym, ◌∙◌, subst}
use Rattle.lsm_machine.specs.Machine.{Worked}
use Rattle.lsm_lives.specs.Asked.{Asked, Told}
use Rattle.lsm_trail.specs.Entries.{MayBeEntered}
use Rattle.lsm_trail.specs.History.{Event}
use Rattle.lsm_trail.specs.Knowledge.{Known}
use Rattle.lsm_shared.specs.Pieces.{work_of}
use Rattle.lsm_shared.proofs.Holds.{denied_with, place_left, may_follow, session_entered, entered_one, entered_step}
use Rattle.lsm_store.specs.Backing.{machine_of}
use Rattle.lsm_shared.specs.Sessions.{SessionView}
use Rattle.lsm_shared.specs.Turns.{Gives}
use Rattle.lsm_shared.proofs.Giving.{work_gives}
use Rattle.lsm_shared.proofs.OwnWork.{no_number, no_result_taken, work_kept, short_of_memory}
use Rattle.lsm_shared.proofs.session.Session.work.Goals as goal

pub invariant_of-self : goal.invariant_of-self
invariant_of-self g c = work_kept _ _ _ _ c.make-reply.ensures.works c.in_err-answer.ensures.1 _ _ _ c.self.invariant

pub returns-in_err-answer : goal.returns-in_err-answer
returns-in_err-answer g c =
    let room = place_left _ _ _ c.is_full.ensures c.if-is_full.false c.self.invariant.room in
    denied_with _ _ _ _ _ c.from_residual.ensures.1 c.in_err-answer.ensures.0
    (short_of_memory _ _ _ _ c.make-reply.ensures.works c.in_err-answer.ensures.1 _ _ _ c.self.view_is _ c.requires.seen room)

pub of_work-entry-requires : goal.of_work-entry-requires
of_work-entry-requires g c = subst (λ (x : Asked × Told). MayBeEntered x.0 x.1) (λ i. (sym c.work.ensures i, sym c.make-reply.ensures.told i)) tt

pub enter-requires-clause-by : goal.enter-requires-clause-by
enter-requires-clause-by g c =
    let is = c.of_work-entry.ensures (work_of c.args.piece) c.work.ensures in
    ap (λ (e : Event). e.client) is ∙ sym c.me.invariant.1 ∙ ap (λ (k : Known). k.number) c.me.view_is

pub enter-requires-clause-may : goal.enter-requires-clause-may
enter-requires-clause-may g c =
    let is = c.of_work-entry.ensures (work_of c.args.piece) c.work.ensures in
    let gives = subst (λ (v : SessionView). Gives (machine_of v.store) (work_of c.args.piece)) (sym c.self.view_is) c.requires.gives in
    may_follow _ _ _ _ _ c.self.invariant (Worked (work_of c.args.piece)) _ c.make-reply.ensures.works _ _ _ is c.in_ok-answer.ensures.1 (work_gives _ _ _ _ c.make-reply.ensures.works gives) (λ same. cc) (no_number _ c.make-reply.result _) (no_result_taken _ c.args.piece _)

pub enter-requires-clause-machine : goal.enter-requires-clause-machine
enter-requires-clause-machine g c =
    let is = c.of_work-entry.ensures (work_of c.args.piece) c.work.ensures in
    ap (λ (e : Event). e.machine) is

pub invariant_of-self-2 : goal.invariant_of-self-2
invariant_of-self-2 g c =
    let is = c.of_work-entry.ensures (work_of c.args.piece) c.work.ensures in
    let room = place_left _ _ _ c.is_full.ensures c.if-is_full.false c.self.invariant.room in
    session_entered _ _ _ _ _ c.self.invariant (Worked (work_of c.args.piece)) _ c.make-reply.ensures.works _ _ _ is _ c.enter.ensures.log c.enter.ensures.legal room

pub returns : goal.returns
returns g c =
    let is = c.of_work-entry.ensures (work_of c.args.piece) c.work.ensures in
    let room = place_left _ _ _ c.is_full.ensures c.if-is_full.false c.self.invariant.room in
    entered_step _ _ _ _ _ _ _ _ _ _ c.in_ok-answer.ensures.0 c.make-reply.ensures.told
    (entered_one _ _ _ _ _ c.self.invariant (Worked (work_of c.args.piece)) _ c.make-reply.ensures.works _ _ _ is _ c.enter.ensures.log c.enter.ensures.legal room
    _ c.self.view_is _ _ c.requires.seen.finds (sym c.me.invariant.1 ∙ ap (λ (k : Known). k.number) c.me.view_is) c.enter.ensures.client)
