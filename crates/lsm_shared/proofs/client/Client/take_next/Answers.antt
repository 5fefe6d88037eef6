use Rattle.lsm_shared.proofs.Telling.{tells_next}
use Rattle.lsm_shared.proofs.client.Client.take_next.Goals as goal

pub returns : goal.returns
returns g c = tells_next _ _ _ _ _ _ c.take_next.ensures
