use Rattle.std.proofs.Common.{subst}
use Rattle.lsm_store.specs.Backing.{StoreView}
use Rattle.lsm_machine.specs.Calls.{SyncTo, Done, reply_of}
use Rattle.lsm_store.specs.Memory.{view_of}
use Rattle.lsm_store.specs.Serving.{Serves}
use Rattle.lsm_store.proofs.store.Store.sync_to.Goals as goal

pub returns-clause-serves : goal.returns-clause-serves
returns-clause-serves g c =
    let new = view_of (g.D.Device.medium c.sync_to.new.device) c.sync_to.new.memory c.self.inside.cache in
    subst (λ (v : StoreView). Serves v (SyncTo c.args.number) (reply_of (λ x. Done) c.sync_to.result) new) c.self.view_is (c.sync_to.ensures.serves c.self.inside.cache)
