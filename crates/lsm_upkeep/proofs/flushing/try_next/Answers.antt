use Rattle.std.proofs.Common.{refl}
use Rattle.lsm_upkeep.proofs.FlushingLaws.{tries}
use Rattle.lsm_upkeep.proofs.Upkept.{stays}
use Rattle.lsm_upkeep.proofs.flushing.try_next.Goals as goal

pub returns-then-finish_next : goal.returns-then-finish_next
returns-then-finish_next g c =
    tries c.finish_next.result c.args.store.now c.push_runs.new.store c.finish_next.new.store c.finish_next.new.store c.push_runs.ensures c.finish_next.ensures.finished c.finish_next.ensures.undone
    (stays c.finish_next.new.store c.finish_next.new.store refl)

pub returns : goal.returns
returns g c =
    tries c.finish_next.result c.args.store.now c.push_runs.new.store c.finish_next.new.store c.make_room.new.store c.push_runs.ensures c.finish_next.ensures.finished c.finish_next.ensures.undone c.make_room.ensures
