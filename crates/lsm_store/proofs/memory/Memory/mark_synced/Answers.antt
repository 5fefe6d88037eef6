use Rattle.std.proofs.Common.{rules}
use Rattle.lsm_store.proofs.memory.Memory.mark_synced.Goals as goal

pub returns : goal.returns
returns g c = search rules
