use Rattle.lsm_shared.proofs.Telling.{tells_brought}
use Rattle.lsm_shared.proofs.client.Client.bring.Goals as goal

pub returns : goal.returns
returns g c = tells_brought _ _ _ _ _ _ _ _ _ c.accept.ensures
