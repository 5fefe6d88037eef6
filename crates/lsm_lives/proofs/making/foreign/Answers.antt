use Rattle.lsm_lives.proofs.Made.{lent_foreign, refused_foreign}
use Rattle.lsm_lives.proofs.making.foreign.Goals as goal

pub returns-in-Ok : goal.returns-in-Ok
returns-in-Ok g c = lent_foreign c.args.store.now c.args.job _ c.in-Ok.ensures.works

pub returns-in-Err : goal.returns-in-Err
returns-in-Err g c = refused_foreign c.args.store.now c.args.job c.in-Err.refusal c.foreign_unless.result c.in-Err.ensures.works c.foreign_unless.ensures.wanting c.foreign_unless.ensures.other
