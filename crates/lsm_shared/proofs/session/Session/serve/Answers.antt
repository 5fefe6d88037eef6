use Rattle.std.proofs.Common.{ap, sym, ◌∙◌}
use Rattle.lsm_machine.specs.Machine.{Called}
use Rattle.lsm_trail.specs.Knowledge.{Known}
use Rattle.lsm_lives.specs.Calls.{call_of, reply_of}
use Rattle.lsm_shared.proofs.Holds.{session_kept, refused_with, short_was, place_left, may_follow, keeps_base, session_entered, lost_in, made_in, number_in, entered_one, knows_then, called_step}
use Rattle.lsm_shared.proofs.Giving.{calls_take_none}
use Rattle.lsm_shared.proofs.OwnWork.{no_number}
use Rattle.lsm_shared.proofs.session.Session.serve.Goals as goal

pub invariant_of-self : goal.invariant_of-self
invariant_of-self g c = session_kept _ _ _ _ _ c.self.invariant _ _ c.serve-reply.ensures.serves (lost_in (call_of c.args.call) c.serve-reply.new.store.state (reply_of c.serve-reply.result) c.in_err-answer.ensures.1)

pub returns-in_err-answer-clause-refused : goal.returns-in_err-answer-clause-refused
returns-in_err-answer-clause-refused g c =
    let room = place_left _ _ _ c.is_full.ensures c.if-is_full.false c.self.invariant.room in
    refused_with _ _ _ _ c.from_residual.ensures.1 c.in_err-answer.ensures.0
    (short_was _ _ _ _ _ (c.self.view_is ∙ c.show.ensures.same) _ _ _ _ c.show.ensures.finds c.show.ensures.known room c.serve-reply.ensures.serves (lost_in (call_of c.args.call) c.serve-reply.new.store.state (reply_of c.serve-reply.result) c.in_err-answer.ensures.1))

pub enter-requires-clause-may : goal.enter-requires-clause-may
enter-requires-clause-may g c =
    let i = c.self.invariant in
    may_follow _ _ _ _ _ i (Called (call_of c.args.call)) _ c.serve-reply.ensures.serves _ _ _ c.of_call-entry.ensures (made_in (call_of c.args.call) c.serve-reply.new.store.state (reply_of c.serve-reply.result) c.in_ok-answer.ensures.1) (calls_take_none _ _ _ _ c.serve-reply.ensures.serves) (keeps_base g.B.SessionName.id _ _ i.number c.if-releases.ensures) (number_in _ _ (call_of c.args.call) c.serve-reply.new.store.state (reply_of c.serve-reply.result) (no_number _ c.serve-reply.result _)) tt

pub invariant_of-self-2 : goal.invariant_of-self-2
invariant_of-self-2 g c =
    let i = c.self.invariant in
    let room = place_left _ _ _ c.is_full.ensures c.if-is_full.false i.room in
    session_entered _ _ _ _ _ i (Called (call_of c.args.call)) _ c.serve-reply.ensures.serves _ _ _ c.of_call-entry.ensures _ c.enter.ensures.log c.enter.ensures.legal room

pub returns-clause-made : goal.returns-clause-made
returns-clause-made g c =
    let i = c.self.invariant in
    let room = place_left _ _ _ c.is_full.ensures c.if-is_full.false i.room in
    let shown = c.me.view_is ∙ c.show.ensures.known in
    called_step _ _ _ _ _ (call_of c.args.call) _ _ c.in_ok-answer.ensures.0 c.serve-reply.ensures.told
    (entered_one _ _ _ _ _ i (Called (call_of c.args.call)) _ c.serve-reply.ensures.serves _ _ _ c.of_call-entry.ensures _ c.enter.ensures.log c.enter.ensures.legal room
    _ (c.self.view_is ∙ c.show.ensures.same) _ _ c.show.ensures.finds (sym c.me.invariant.1 ∙ ap (λ (k : Known). k.number) shown)
    (knows_then g.B.SessionName.id _ _ c.args.me.now _ _ _ c.show.ensures.known c.enter.ensures.client))
