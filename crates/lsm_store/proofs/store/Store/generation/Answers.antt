use Rattle.std.proofs.Common.{sym, ap, ◌∙◌}
use Rattle.lsm_store.specs.Backing.{StoreView}
use Rattle.lsm_store.proofs.store.Store.generation.Goals as goal

pub returns : goal.returns
returns g c = sym c.self.invariant.0.agrees.generation ∙ ap (λ (v : StoreView). v.state.generation) c.self.view_is
