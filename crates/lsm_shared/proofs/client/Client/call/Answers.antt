use Rattle.lsm_shared.proofs.Telling.{tells_made, tells_refused}
use Rattle.lsm_shared.proofs.client.Client.call.Goals as goal

pub returns-clause-made : goal.returns-clause-made
returns-clause-made g c = tells_made _ _ _ _ _ _ _ _ c.serve.ensures.made

pub returns-clause-refused : goal.returns-clause-refused
returns-clause-refused g c = tells_refused _ _ _ _ _ _ _ c.serve.ensures.refused
