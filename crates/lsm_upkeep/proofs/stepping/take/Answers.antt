use Rattle.std.proofs.Common.{Some, refl}
use Rattle.lsm_upkeep.proofs.Upkept.{asked_for, stays}
use Rattle.lsm_upkeep.proofs.stepping.take.Goals as goal

pub returns-in-Ok-Some : goal.returns-in-Ok-Some
returns-in-Ok-Some g c = asked_for (Some c.in-Ok-Some.step.choice) c.finish_step.result c.args.store.now c.finish_step.new.store c.finish_step.ensures.finished c.finish_step.ensures.undone

pub returns-in-Ok-None : goal.returns-in-Ok-None
returns-in-Ok-None g c = stays c.args.store.now c.args.store.now refl

pub returns-in-Err : goal.returns-in-Err
returns-in-Err g c = stays c.args.store.now c.args.store.now refl
