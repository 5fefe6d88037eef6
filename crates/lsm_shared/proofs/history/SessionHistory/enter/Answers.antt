use Rattle.lsm_shared.proofs.Keeping.{calls_fit, builds_fit, numbers_with, legal_with, history_with, legal_pushed}
use Rattle.lsm_shared.proofs.history.SessionHistory.enter.Goals as goal

pub counted-self-inside-requires : goal.counted-self-inside-requires
counted-self-inside-requires g c = calls_fit _ _ _ _ _ c.self.invariant _ c.self.view_is c.requires.room

pub counted-self-inside-requires-2 : goal.counted-self-inside-requires-2
counted-self-inside-requires-2 g c = builds_fit _ _ _ _ _ c.self.invariant _ c.self.view_is c.requires.room

pub write-requires-clause-next : goal.write-requires-clause-next
write-requires-clause-next g c = numbers_with _ _ _ _ _ c.self.invariant _ c.self.view_is _ c.requires.may c.args.store.now c.requires.machine _ c.is_call.ensures _ _ _ c.counted-self-inside.ensures c.batch_count.ensures c.synced_count.ensures

pub write-requires-clause-legal : goal.write-requires-clause-legal
write-requires-clause-legal g c = legal_with _ _ _ _ _ c.self.invariant _ c.self.view_is _ c.requires.may

pub invariant_of-self : goal.invariant_of-self
invariant_of-self g c = history_with _ _ _ _ _ c.self.invariant _ c.self.view_is _ c.requires.may _ _ _ _ _ _ c.requires.room c.push.ensures c.write.ensures.keeper c.write.ensures.dealt c.is_call.ensures c.counted-self-inside.ensures c.is_lent.ensures c.counted-self-inside-2.ensures

pub returns-clause-legal : goal.returns-clause-legal
returns-clause-legal g c = legal_pushed _ _ _ _ _ c.self.invariant _ c.self.view_is _ c.requires.may _ c.push.ensures
