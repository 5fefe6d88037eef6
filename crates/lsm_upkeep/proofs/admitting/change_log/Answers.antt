use Rattle.std.proofs.Common.{refl}
use Rattle.lsm_upkeep.proofs.RoomLaws.{begins-amid}
use Rattle.lsm_upkeep.proofs.Upkept.{stays, then}
use Rattle.lsm_upkeep.proofs.admitting.change_log.Goals as goal

pub returns-else-not-had_room-clause-upkept : goal.returns-else-not-had_room-clause-upkept
returns-else-not-had_room-clause-upkept g c = then c.args.store.now c.finish_begun.new.store c.next_log.new.store c.finish_begun.ensures c.next_log.ensures.upkept

pub returns-else-not-had_room-clause-begins : goal.returns-else-not-had_room-clause-begins
returns-else-not-had_room-clause-begins g c =
    begins-amid c.args.store.now c.finish_begun.new.store c.next_log.new.store c.next_log.new.store c.finish_begun.ensures c.next_log.ensures.begins (stays c.next_log.new.store c.next_log.new.store refl)

pub returns-then-not-had_room-clause-upkept : goal.returns-then-not-had_room-clause-upkept
returns-then-not-had_room-clause-upkept g c =
    then c.args.store.now c.finish_begun.new.store c.merge.new.store c.finish_begun.ensures
    (then c.finish_begun.new.store c.next_log.new.store c.merge.new.store c.next_log.ensures.upkept c.merge.ensures)

pub returns-then-not-had_room-clause-begins : goal.returns-then-not-had_room-clause-begins
returns-then-not-had_room-clause-begins g c =
    begins-amid c.args.store.now c.finish_begun.new.store c.next_log.new.store c.merge.new.store c.finish_begun.ensures c.next_log.ensures.begins c.merge.ensures
