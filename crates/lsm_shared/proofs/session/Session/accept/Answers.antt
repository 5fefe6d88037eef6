use Rattle.std.proofs.Common.{refl, sym, ◌∙◌}
use Rattle.lsm_shared.proofs.Bringing.{stopped_at_once, was_brought, was_dropped, stopped_then}
use Rattle.lsm_store.specs.Backing.{machine_of}
use Rattle.lsm_shared.proofs.Giving.{drop_gives}
use Rattle.lsm_shared.proofs.Holds.{denied_with, seen_then}
use Rattle.lsm_shared.proofs.session.Session.accept.Goals as goal

pub returns-in_err-reply : goal.returns-in_err-reply
returns-in_err-reply g c = denied_with _ _ _ _ _ c.from_residual.ensures.1 refl (stopped_at_once _ _ _ _ c.args.self.now _ _ _ c.args.me.now c.show.ensures.same c.show.ensures.finds c.show.ensures.known _ _ _ _ c.in_err-reply.ensures)

pub returns : goal.returns
returns g c = was_brought _ _ _ _ c.args.self.now _ _ _ c.args.me.now c.show.ensures.same c.show.ensures.finds c.show.ensures.known _ _ _ _ c.in_ok-reply.ensures (sym c.is_without_room.ensures ∙ c.if-is_without_room.false)

pub work-requires-clause-gives : goal.work-requires-clause-gives
work-requires-clause-gives g c = drop_gives (machine_of c.accept_one.new.self.store) c.args.job

pub work-requires-clause-seen : goal.work-requires-clause-seen
work-requires-clause-seen g c = seen_then _ _ _ _ _ _ c.in_ok-reply.ensures.one.enters

pub returns-in_err-work : goal.returns-in_err-work
returns-in_err-work g c = denied_with _ _ _ _ _ c.from_residual-in_err-work.ensures.1 refl (stopped_then _ _ _ _ _ _ _ _ _ c.show.ensures.same c.show.ensures.finds c.show.ensures.known _ _ _ _ c.in_ok-reply.ensures _ (sym c.is_without_room.ensures ∙ c.if-is_without_room.true) c.in_err-work.ensures)

pub returns-then-is_without_room : goal.returns-then-is_without_room
returns-then-is_without_room g c = was_dropped _ _ _ _ _ _ _ _ _ c.show.ensures.same c.show.ensures.finds c.show.ensures.known _ _ _ _ c.in_ok-reply.ensures _ (sym c.is_without_room.ensures ∙ c.if-is_without_room.true) c.in_ok-work.ensures
