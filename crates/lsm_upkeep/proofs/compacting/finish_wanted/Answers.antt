use Rattle.std.proofs.Common.{refl}
use Rattle.lsm_upkeep.proofs.Upkept.{stays}
use Rattle.lsm_upkeep.proofs.compacting.finish_wanted.Goals as goal

pub returns-in-Nothing : goal.returns-in-Nothing
returns-in-Nothing g c = stays c.args.store.now c.args.store.now refl
