use Rattle.lsm_shared.proofs.Places.{free_for_merge, held_for_merge}
use Rattle.lsm_shared.proofs.due.is_for_merge.Goals as goal

pub returns-in-Some : goal.returns-in-Some
returns-in-Some g c = held_for_merge c.args.jobs.now.slots _ _ _ c.in-Some.ensures c.takes_in_none.ensures

pub returns-in-None : goal.returns-in-None
returns-in-None g c = free_for_merge c.args.jobs.now.slots _ c.in-None.ensures
