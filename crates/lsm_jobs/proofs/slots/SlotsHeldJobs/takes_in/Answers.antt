use Rattle.std.proofs.Common.{◌==◌}
use Rattle.std.specs.List.{list_any}
use Rattle.lsm_levels.specs.Pick.{inputs}
use Rattle.lsm_jobs.proofs.Holding.{held_told}
use Rattle.lsm_jobs.proofs.slots.SlotsHeldJobs.takes_in.Goals as goal

pub returns : goal.returns
returns g c = held_told (λ job. list_any (λ t. t.number == c.args.number) (inputs job)) c.hold_table.result c.deref.result.now c.self.inside.slots.items c.self.inside.next c.args.self.now c.hold_table.ensures c.deref.ensures.value c.self.view_is
