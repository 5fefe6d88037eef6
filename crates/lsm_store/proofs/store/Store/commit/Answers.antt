use Rattle.std.proofs.Common.{subst}
use Rattle.lsm_device.specs.Calls.{AtMost}
use Rattle.lsm_store.specs.Backing.{StoreView}
use Rattle.lsm_machine.specs.Calls.{Commit, Number, reply_of}
use Rattle.lsm_store.specs.Memory.{view_of}
use Rattle.lsm_store.specs.Serving.{Serves}
use Rattle.lsm_store.proofs.store.Store.commit.Goals as goal

pub returns-clause-serves : goal.returns-clause-serves
returns-clause-serves g c =
    let new = view_of (g.D.Device.medium c.commit.new.device) c.commit.new.memory c.self.inside.cache in
    subst (λ (v : StoreView). Serves v (Commit c.args.batch.now) (reply_of (λ n. Number n) c.commit.result) new) c.self.view_is (c.commit.ensures.serves c.self.inside.cache)

pub returns-clause-calls : goal.returns-clause-calls
returns-clause-calls g c =
    let new = (g.D.Device.medium c.commit.new.device).calls in
    subst (λ (v : StoreView). AtMost 0 128 0 v.device.calls new) c.self.view_is c.commit.ensures.calls
