use Rattle.std.proofs.Common.{subst}
use Rattle.lsm_store.specs.Backing.{StoreView}
use Rattle.lsm_machine.specs.Calls.{Number, reply_of}
use Rattle.lsm_store.specs.Memory.{view_of}
use Rattle.lsm_machine.specs.Work.{Read}
use Rattle.lsm_store.specs.Working.{Works}
use Rattle.lsm_store.proofs.store.Store.job_read.Goals as goal

pub returns : goal.returns
returns g c = record {
  works =
      subst (λ (v : StoreView). Works v (Read c.args.job) (reply_of Number c.read.result) (view_of (g.D.Device.medium c.read.new.device) c.read.new.memory c.self.inside.cache)) c.self.view_is
      (c.read.ensures.works c.self.inside.cache);
}
