use Rattle.lsm_levels.specs.Pick.{is_merge}
use Rattle.lsm_jobs.proofs.Holding.{held_told}
use Rattle.lsm_jobs.proofs.slots.SlotsHeldJobs.has_merge.Goals as goal

pub returns : goal.returns
returns g c = held_told is_merge c.hold_merge.result c.deref.result.now c.self.inside.slots.items c.self.inside.next c.args.self.now c.hold_merge.ensures c.deref.ensures.value c.self.view_is
