use Rattle.lsm_upkeep.proofs.Upkept.{then}
use Rattle.corwaphi.proofs.opening.ready.Goals as goal

pub returns-clause-readied : goal.returns-clause-readied
returns-clause-readied g c = record { compacted = c.compact.new.store; compacts = c.compact.ensures.upkept; opens = c.begin_log.ensures.readies }

pub returns-clause-upkept : goal.returns-clause-upkept
returns-clause-upkept g c = then c.args.store.now c.compact.new.store c.begin_log.new.store c.compact.ensures.upkept c.begin_log.ensures.upkept
