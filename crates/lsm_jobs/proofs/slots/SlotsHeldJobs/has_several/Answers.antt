use Rattle.lsm_levels.specs.Pick.{is_several}
use Rattle.lsm_jobs.proofs.Holding.{held_told}
use Rattle.lsm_jobs.proofs.slots.SlotsHeldJobs.has_several.Goals as goal

pub returns : goal.returns
returns g c = held_told is_several c.hold_several.result c.deref.result.now c.self.inside.slots.items c.self.inside.next c.args.self.now c.hold_several.ensures c.deref.ensures.value c.self.view_is
