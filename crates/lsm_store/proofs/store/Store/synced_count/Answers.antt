use Rattle.std.proofs.Common.{sym, ap, ◌∙◌}
use Rattle.lsm_store.specs.Backing.{StoreView}
use Rattle.lsm_store.proofs.store.Store.synced_count.Goals as goal

pub returns : goal.returns
returns g c = sym c.self.invariant.0.agrees.known ∙ ap (λ (v : StoreView). v.state.points.synced) c.self.view_is
