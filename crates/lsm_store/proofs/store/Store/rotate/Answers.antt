use Rattle.std.proofs.Common.{subst, OnOk}
use Rattle.lsm_open.specs.Layout.{layout_of}
use Rattle.lsm_open.specs.Switching.{IsRotated}
use Rattle.lsm_store.specs.Backing.{StoreView}
use Rattle.lsm_machine.specs.Calls.{Rotate, Done, reply_of}
use Rattle.lsm_store.specs.Memory.{view_of}
use Rattle.lsm_machine.specs.RecoveryPoints.{batch_count}
use Rattle.lsm_store.specs.Serving.{Serves}
use Rattle.lsm_store.proofs.store.Store.rotate.Goals as goal

pub returns-clause-serves : goal.returns-clause-serves
returns-clause-serves g c =
    let new = view_of (g.D.Device.medium c.rotate.new.device) c.rotate.new.memory c.self.inside.cache in
    subst (λ (v : StoreView). Serves v Rotate (reply_of (λ x. Done) c.rotate.result) new) c.self.view_is (c.rotate.ensures.serves c.self.inside.cache)

pub returns-clause-opens : goal.returns-clause-opens
returns-clause-opens g c = subst (λ (v : StoreView). OnOk c.rotate.result (IsRotated (record v.layout { next_table = v.work.next_table }) (batch_count v.state.points) (layout_of c.rotate.new.memory.regions))) c.self.view_is c.rotate.ensures.opens
