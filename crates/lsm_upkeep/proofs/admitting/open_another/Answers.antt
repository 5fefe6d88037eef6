use Rattle.std.proofs.Common.{refl}
use Rattle.lsm_upkeep.proofs.Upkept.{stays}
use Rattle.lsm_upkeep.proofs.admitting.open_another.Goals as goal

pub returns-clause-upkept : goal.returns-clause-upkept
returns-clause-upkept g c = stays c.args.store.now c.args.store.now refl

pub returns-2-clause-upkept : goal.returns-2-clause-upkept
returns-2-clause-upkept g c = stays c.args.store.now c.args.store.now refl
