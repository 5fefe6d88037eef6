use Rattle.std.proofs.Common.{◌≡◌, subst}
use Rattle.std.specs.Prelude.{OnOk}
use Rattle.lsm_store.specs.Backing.{StoreView}
use Rattle.lsm_machine.specs.Calls.{Done, reply_of}
use Rattle.lsm_store.specs.Memory.{view_of}
use Rattle.lsm_machine.specs.Work.{Install}
use Rattle.lsm_store.specs.Working.{Works}
use Rattle.lsm_store.proofs.store.Store.job_install.Goals as goal

pub returns-clause-works : goal.returns-clause-works
returns-clause-works g c =
    subst (λ (v : StoreView). Works v (Install c.args.job) (reply_of (λ x. Done) c.install.result) (view_of (g.D.Device.medium c.install.new.device) c.install.new.memory c.self.inside.cache)) c.self.view_is
    (c.install.ensures.works c.self.inside.cache)

pub returns-clause-numbered : goal.returns-clause-numbered
returns-clause-numbered g c = subst (λ (v : StoreView). OnOk c.install.result (c.install.new.memory.regions.next_table ≡ v.work.next_table)) c.self.view_is c.install.ensures.numbered
