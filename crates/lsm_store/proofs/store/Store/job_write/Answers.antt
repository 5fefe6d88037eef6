use Rattle.std.proofs.Common.{subst}
use Rattle.lsm_store.specs.Backing.{StoreView}
use Rattle.lsm_machine.specs.Calls.{Number, reply_of}
use Rattle.lsm_store.specs.Memory.{view_of}
use Rattle.lsm_machine.specs.Work.{Write}
use Rattle.lsm_store.specs.Working.{Works}
use Rattle.lsm_store.proofs.store.Store.job_write.Goals as goal

pub returns : goal.returns
returns g c = record {
  works =
      subst (λ (v : StoreView). Works v (Write c.args.job) (reply_of Number c.write.result) (view_of (g.D.Device.medium c.write.new.device) c.write.new.memory c.self.inside.cache)) c.self.view_is
      (c.write.ensures.works c.self.inside.cache);
}
