use Rattle.lsm_shared.proofs.Places.{free_for_flush, held_for_flush}
use Rattle.lsm_shared.proofs.due.is_for_flush.Goals as goal

pub returns-in-Some : goal.returns-in-Some
returns-in-Some g c = held_for_flush c.args.jobs.now.slots _ c.args.is_due _ _ c.in-Some.ensures c.takes_in_none.ensures

pub returns-in-None : goal.returns-in-None
returns-in-None g c = free_for_flush c.args.jobs.now.slots _ c.args.is_due c.in-None.ensures
