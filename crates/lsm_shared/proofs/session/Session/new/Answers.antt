use Rattle.lsm_trail.proofs.Histories.{legal_none}
use Rattle.lsm_shared.proofs.Holds.{session_begun}
use Rattle.lsm_shared.proofs.session.Session.new.Goals as goal

pub new-history-requires-clause-legal : goal.new-history-requires-clause-legal
new-history-requires-clause-legal g c = legal_none _ c.requires.pinned.could

pub invariant_of-result : goal.invariant_of-result
invariant_of-result g c = session_begun _ _ _ _ c.new-history.ensures c.requires.pinned
