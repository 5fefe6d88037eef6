use Rattle.std.proofs.Common.{Some, subst}
use Rattle.lsm_store.specs.Backing.{StoreView}
use Rattle.lsm_machine.specs.Calls.{Done, reply_of}
use Rattle.lsm_store.specs.Memory.{view_of}
use Rattle.lsm_machine.specs.Work.{Accept}
use Rattle.lsm_store.specs.Working.{Works}
use Rattle.lsm_store.proofs.store.Store.job_accept.Goals as goal

pub invariant_of-self : goal.invariant_of-self
invariant_of-self g c = (c.accept.ensures.kept, c.accept.ensures.inside (g.D.Device.medium c.self.inside.device).size c.self.invariant.1)

pub returns : goal.returns
returns g c = record {
  works =
      let medium = g.D.Device.medium c.self.inside.device in
      subst (λ (v : StoreView). Works v (Accept c.args.job (Some c.args.built.now)) (reply_of (λ x. Done) c.accept.result) (view_of medium c.accept.new.memory c.self.inside.cache)) c.self.view_is (c.accept.ensures.works medium c.self.inside.cache c.self.invariant.1 (λ tells. (g.met.D.Device.sound c.self.inside.device tells).now.size));
}
