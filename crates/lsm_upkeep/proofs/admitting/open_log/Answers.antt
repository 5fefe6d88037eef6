use Rattle.lsm_upkeep.proofs.FlushingLaws.{readies}
use Rattle.lsm_upkeep.proofs.Upkept.{then}
use Rattle.lsm_upkeep.proofs.admitting.open_log.Goals as goal

pub returns-clause-upkept : goal.returns-clause-upkept
returns-clause-upkept g c = then c.args.store.now c.flush.new.store c.open_another.new.store c.flush.ensures.upkept c.open_another.ensures.upkept

pub returns-clause-readies : goal.returns-clause-readies
returns-clause-readies g c =
    readies c.flush.result c.args.store.now c.flush.new.store c.open_another.new.store c.flush.ensures.upkept c.flush.ensures.finished c.flush.ensures.tried c.open_another.ensures.opens
