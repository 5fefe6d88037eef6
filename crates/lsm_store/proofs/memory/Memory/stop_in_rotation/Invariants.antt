use Rattle.lsm_machine.specs.Calls.{Rotate}
use Rattle.lsm_machine.specs.Run.{stopped_in}
use Rattle.lsm_store.proofs.memory.Memory.stop_in_rotation.Given as goal

abbrev pub ghost-then : goal.ghost-then
ghost-then g a = stopped_in a.self.now.state Rotate
