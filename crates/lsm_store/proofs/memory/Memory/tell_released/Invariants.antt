use Rattle.lsm_machine.specs.Calls.{Release}
use Rattle.lsm_machine.specs.Effects.{after}
use Rattle.lsm_store.proofs.memory.Memory.tell_released.Given as goal

abbrev pub ghost-then_by_number : goal.ghost-then_by_number
ghost-then_by_number g a = after a.self.now.state (Release a._number)
