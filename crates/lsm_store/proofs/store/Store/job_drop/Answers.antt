use Rattle.std.proofs.Common.{subst}
use Rattle.lsm_store.specs.Backing.{StoreView}
use Rattle.lsm_machine.specs.Calls.{Done, reply_of}
use Rattle.lsm_store.specs.Memory.{view_of}
use Rattle.lsm_machine.specs.Work.{Drop}
use Rattle.lsm_store.specs.Working.{Works}
use Rattle.lsm_store.proofs.store.Store.job_drop.Goals as goal

pub invariant_of-self : goal.invariant_of-self
invariant_of-self g c = (c.drop.ensures.kept, c.drop.ensures.inside (g.D.Device.medium c.self.inside.device).size c.self.invariant.1)

pub returns : goal.returns
returns g c = record {
  works =
      let medium = g.D.Device.medium c.self.inside.device in
      subst (λ (v : StoreView). Works v (Drop c.args.job) (reply_of (λ x. Done) c.drop.result) (view_of medium c.drop.new.memory c.self.inside.cache)) c.self.view_is (c.drop.ensures.works medium c.self.inside.cache);
}
