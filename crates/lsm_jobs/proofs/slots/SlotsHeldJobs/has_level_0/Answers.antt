use Rattle.lsm_levels.specs.Pick.{is_of_level_0}
use Rattle.lsm_jobs.proofs.Holding.{held_told}
use Rattle.lsm_jobs.proofs.slots.SlotsHeldJobs.has_level_0.Goals as goal

pub returns : goal.returns
returns g c = held_told is_of_level_0 c.hold_level_0.result c.deref.result.now c.self.inside.slots.items c.self.inside.next c.args.self.now c.hold_level_0.ensures c.deref.ensures.value c.self.view_is
