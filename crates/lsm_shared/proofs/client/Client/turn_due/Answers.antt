use Rattle.lsm_shared.proofs.Telling.{tells_due, tells_due_lent}
use Rattle.lsm_shared.proofs.client.Client.turn_due.Goals as goal

pub returns-clause-taken : goal.returns-clause-taken
returns-clause-taken g c = tells_due _ _ _ _ _ _ c.piece_due.ensures

pub returns-clause-lent : goal.returns-clause-lent
returns-clause-lent g c = tells_due_lent _ _ _ (tells_due _ _ _ _ _ _ c.piece_due.ensures)
