use Rattle.lsm_machine.specs.Effects.{installed}
use Rattle.lsm_store.proofs.memory.Memory.install_to.Given as goal

abbrev pub ghost-then_by_flag : goal.ghost-then_by_flag
ghost-then_by_flag g a = installed a._flag a.self.now.state
