use Rattle.lsm_upkeep.proofs.KeptMaps.{onward}
use Rattle.lsm_upkeep.proofs.Upkept.{then}
use Rattle.lsm_upkeep.proofs.keeping.keep_up.Goals as goal

pub returns-clause-upkept : goal.returns-clause-upkept
returns-clause-upkept g c = then c.args.store.now c.settle.new.store c.ease.new.store c.settle.ensures.upkept c.ease.ensures.upkept

pub returns-clause-map : goal.returns-clause-map
returns-clause-map g c = onward c.args.store.now c.settle.new.store c.ease.new.store c.settle.ensures.map c.ease.ensures.upkept.keeps
