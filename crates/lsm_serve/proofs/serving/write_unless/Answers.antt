use Rattle.lsm_serve.proofs.ServingLaws.{unless-written}
use Rattle.lsm_serve.proofs.serving.write_unless.Goals as goal

pub returns : goal.returns
returns g c = unless-written _ _ _ _ _ c.write_held.ensures
