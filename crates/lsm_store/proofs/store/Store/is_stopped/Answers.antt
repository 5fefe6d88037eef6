use Rattle.std.proofs.Common.{◌∙◌, ap}
use Rattle.std.specs.Prelude.{is_some}
use Rattle.lsm_store.specs.Backing.{StoreView}
use Rattle.lsm_store.proofs.store.Store.is_stopped.Goals as goal

pub returns : goal.returns
returns g c = c.is_stopped.ensures ∙ ap (λ (v : StoreView). is_some v.state.stopped) c.self.view_is
