use Rattle.std.proofs.Common.{subst}
use Rattle.lsm_store.specs.Backing.{StoreView}
use Rattle.lsm_machine.specs.Calls.{Sync, Done, reply_of}
use Rattle.lsm_store.specs.Memory.{view_of}
use Rattle.lsm_store.specs.Serving.{Serves}
use Rattle.lsm_store.proofs.store.Store.sync.Goals as goal

pub returns-clause-serves : goal.returns-clause-serves
returns-clause-serves g c =
    let new = view_of (g.D.Device.medium c.sync.new.device) c.sync.new.memory c.self.inside.cache in
    subst (λ (v : StoreView). Serves v Sync (reply_of (λ x. Done) c.sync.result) new) c.self.view_is (c.sync.ensures.serves c.self.inside.cache)
