use Rattle.std.proofs.Common.{rules}
use Rattle.lsm_lives.proofs.making.taken.Goals as goal

pub returns-in-Ok : goal.returns-in-Ok
returns-in-Ok c = search rules
