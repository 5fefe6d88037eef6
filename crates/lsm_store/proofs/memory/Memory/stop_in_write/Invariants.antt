use Rattle.std.proofs.Common.{[], Some}
use Rattle.lsm_store.proofs.memory.Memory.stop_in_write.Given as goal

abbrev pub ghost-then : goal.ghost-then
ghost-then g a = record a.self.now.state { stopped = Some [] }
