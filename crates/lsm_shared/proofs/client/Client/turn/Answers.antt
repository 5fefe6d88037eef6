use Rattle.lsm_shared.proofs.Telling.{tells_turn, tells_lent}
use Rattle.lsm_shared.proofs.client.Client.turn.Goals as goal

pub returns-clause-taken : goal.returns-clause-taken
returns-clause-taken g c = tells_turn _ _ _ _ _ _ c.piece.ensures

pub returns-clause-lent : goal.returns-clause-lent
returns-clause-lent g c = tells_lent _ _ _ (tells_turn _ _ _ _ _ _ c.piece.ensures)
