use Rattle.std.proofs.Common.{Some, subst}
use Rattle.lsm_store.specs.Backing.{StoreView}
use Rattle.lsm_store.specs.Memory.{view_of}
use Rattle.lsm_machine.specs.Work.{Take}
use Rattle.lsm_store.specs.Working.{Works}
use Rattle.lsm_machine.specs.Calls.{taken_reply, reply_of}
use Rattle.lsm_store.proofs.store.Store.job_take_of.Goals as goal

pub invariant_of-self : goal.invariant_of-self
invariant_of-self g c = (c.take.ensures.kept, c.take.ensures.inside (g.D.Device.medium c.self.inside.device).size c.self.invariant.1)

pub returns : goal.returns
returns g c = record {
  works =
      let medium = g.D.Device.medium c.self.inside.device in
      subst (λ (v : StoreView). Works v (Take (Some c.args.choice)) (reply_of taken_reply c.take.result) (view_of medium c.take.new.memory c.self.inside.cache)) c.self.view_is (c.take.ensures.works medium c.self.inside.cache);
}
