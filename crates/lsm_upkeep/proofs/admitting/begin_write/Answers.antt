use Rattle.lsm_upkeep.proofs.FlushingLaws.{readies-before}
use Rattle.lsm_upkeep.proofs.Upkept.{then}
use Rattle.lsm_upkeep.proofs.admitting.begin_write.Goals as goal

pub returns-clause-upkept : goal.returns-clause-upkept
returns-clause-upkept g c =
    then c.args.store.now c.finish_before_flush.new.store c.go_on.new.store c.finish_before_flush.ensures
    (then c.finish_before_flush.new.store c.open_log.new.store c.go_on.new.store c.open_log.ensures.upkept c.go_on.ensures)

pub returns-clause-readies : goal.returns-clause-readies
returns-clause-readies g c =
    (c.open_log.new.store, readies-before c.args.store.now c.finish_before_flush.new.store c.open_log.new.store c.finish_before_flush.ensures c.open_log.ensures.readies, c.go_on.ensures)
