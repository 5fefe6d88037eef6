use Rattle.lsm_shared.proofs.Telling.{tells_of}
use Rattle.lsm_shared.proofs.client.Client.take.Goals as goal

pub returns : goal.returns
returns g c = tells_of _ _ _ _ _ _ _ c.take.ensures
