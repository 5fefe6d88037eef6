use Rattle.std.proofs.Common.{◌≡◌, Some, None, ◌∙◌, refl, subst}
use Rattle.lsm_store.specs.Backing.{machine_of}
use Rattle.lsm_machine.specs.Calls.{Given}
use Rattle.lsm_machine.specs.Work.{Take}
use Rattle.lsm_machine.specs.WorkReplies.{work_decided}
use Rattle.lsm_shared.specs.Sessions.{SessionView}
use Rattle.lsm_shared.specs.Turns.{Gives}
use Rattle.lsm_shared.proofs.Choosing.{only_seen, piece_put_back, piece_made}
use Rattle.lsm_shared.proofs.Holds.{denied_with}
use Rattle.lsm_shared.proofs.session.Session.take.Goals as goal

pub returns-then-gives_none : goal.returns-then-gives_none
returns-then-gives_none g c =
    let seen = only_seen _ _ _ _ _ c.show.ensures.same c.show.ensures.finds c.show.ensures.known in
    record {
      none = subst (λ (v : SessionView). work_decided (machine_of v.store) (Take (Some c.args.choice)) ≡ Given None) (c.self.view_is ∙ c.show.ensures.same) c.if-gives_none.ensures;
      enters = seen.0;
      same = seen.1;
    }

pub work-requires-clause-gives : goal.work-requires-clause-gives
work-requires-clause-gives g c = subst (λ (v : SessionView). Gives (machine_of v.store) (Take (Some c.args.choice))) c.self.view_is c.if-gives_none.ensures

pub returns-in_err-reply : goal.returns-in_err-reply
returns-in_err-reply g c = denied_with _ _ _ _ _ c.from_residual.ensures.1 refl record {
  piece = piece_put_back _ _ _ _ _ _ _ c.show.ensures.same c.show.ensures.finds c.show.ensures.known _ _ c.in_err-reply.ensures;
  gives = subst (λ (v : SessionView). Gives (machine_of v.store) (Take (Some c.args.choice))) (c.self.view_is ∙ c.show.ensures.same) c.if-gives_none.ensures;
}

pub returns : goal.returns
returns g c = piece_made _ _ _ _ _ _ _ c.show.ensures.same c.show.ensures.finds c.show.ensures.known _ _ c.in_ok-reply.ensures
