use Rattle.std.proofs.Common.{rules}
use Rattle.lsm_store.proofs.store.Store+MemDevice+B+A.fail.Goals as goal

pub returns-clause-device : goal.returns-clause-device
returns-clause-device g c = search rules
