use Rattle.lsm_store.specs.InstalledMemory.{stopped_in_install}
use Rattle.lsm_store.proofs.memory.Memory.stop_in_install.Given as goal

abbrev pub ghost-then_by_flag : goal.ghost-then_by_flag
ghost-then_by_flag g a = stopped_in_install a._flag a.self.now.state
