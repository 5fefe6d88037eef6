use Rattle.std.proofs.Common.{◌∙◌, ap}
use Rattle.lsm_machine.specs.State.{are_waiting}
use Rattle.lsm_store.specs.Backing.{StoreView}
use Rattle.lsm_store.proofs.store.Store.is_waiting.Goals as goal

pub returns : goal.returns
returns g c = c.is_waiting.ensures ∙ ap (λ (v : StoreView). are_waiting v.state) c.self.view_is
