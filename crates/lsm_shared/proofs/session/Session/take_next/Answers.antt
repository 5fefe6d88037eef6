use Rattle.std.proofs.Common.{Some, ◌∙◌, refl, subst}
use Rattle.lsm_store.specs.Backing.{machine_of}
use Rattle.lsm_machine.specs.Work.{Take}
use Rattle.lsm_shared.specs.Due.{MayMerge}
use Rattle.lsm_shared.specs.Sessions.{SessionView}
use Rattle.lsm_shared.specs.Turns.{Gives, MayChoose}
use Rattle.lsm_shared.proofs.Choosing.{only_seen, piece_put_back, piece_made}
use Rattle.lsm_shared.proofs.Holds.{denied_with}
use Rattle.lsm_shared.proofs.session.Session.take_next.Goals as goal

pub returns-in_default : goal.returns-in_default
returns-in_default g c = only_seen _ _ _ _ _ c.show.ensures.same c.show.ensures.finds c.show.ensures.known

pub work-requires-clause-gives : goal.work-requires-clause-gives
work-requires-clause-gives g c = subst (λ (v : SessionView). Gives (machine_of v.store) (Take (Some c.in-Some.choice))) c.self.view_is c.in-Some.ensures.2

pub returns-in_err-reply : goal.returns-in_err-reply
returns-in_err-reply g c = denied_with _ _ _ _ _ c.from_residual.ensures.1 refl (
  c.in-Some.choice,
  record {
    piece = piece_put_back _ _ _ _ _ _ _ c.show.ensures.same c.show.ensures.finds c.show.ensures.known _ _ c.in_err-reply.ensures;
    gives = subst (λ (v : SessionView). Gives (machine_of v.store) (Take (Some c.in-Some.choice))) (c.self.view_is ∙ c.show.ensures.same) c.in-Some.ensures.2;
  },
)

pub returns : goal.returns
returns g c = record {
  choice = c.in-Some.choice;
  step = piece_made _ _ _ _ _ _ _ c.show.ensures.same c.show.ensures.finds c.show.ensures.known _ _ c.in_ok-reply.ensures;
  may = subst (λ (v : SessionView). MayChoose (machine_of v.store) c.in-Some.choice) (c.self.view_is ∙ c.show.ensures.same) c.in-Some.ensures.1;
  next = subst (λ (v : SessionView). MayMerge (machine_of v.store)) (c.self.view_is ∙ c.show.ensures.same) c.in-Some.ensures.0;
}
