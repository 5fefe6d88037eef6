use Rattle.example_shared.proofs.Making.{stores}
use Rattle.example_shared.proofs.client.store.Goals as goal

pub returns : goal.returns
returns g c = stores _ _ _ _ c.requires c.in_ok-make.ensures c.in_ok-make-2.ensures
