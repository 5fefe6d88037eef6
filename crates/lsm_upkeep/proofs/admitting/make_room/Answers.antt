use Rattle.std.proofs.Common.{refl}
use Rattle.lsm_upkeep.proofs.Upkept.{stays, then}
use Rattle.lsm_upkeep.proofs.admitting.make_room.Goals as goal

pub returns-then-is_met-clause-upkept : goal.returns-then-is_met-clause-upkept
returns-then-is_met-clause-upkept g c = stays c.args.store.now c.args.store.now refl

pub returns-clause-upkept : goal.returns-clause-upkept
returns-clause-upkept g c = then c.args.store.now c.finish.new.store c.push.new.store c.finish.ensures c.push.ensures

pub returns-then-is_refused-clause-upkept : goal.returns-then-is_refused-clause-upkept
returns-then-is_refused-clause-upkept g c = then c.args.store.now c.finish.new.store c.push.new.store c.finish.ensures c.push.ensures
