use Rattle.std.proofs.Common.{arith}
use Rattle.lsm_trail.proofs.Histories.{few_lent}
use Rattle.lsm_shared.proofs.history.SessionHistory.next_result.Goals as goal

pub overflow_add-result : goal.overflow_add-result
overflow_add-result g c = let i = c.self.invariant in omega (arith, i.builds_are, few_lent c.self.inside.trail.log, i.room, i.small)
