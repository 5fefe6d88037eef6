use Rattle.lsm_machine.specs.Calls.{Rotate}
use Rattle.lsm_machine.specs.Effects.{after}
use Rattle.lsm_store.proofs.memory.Memory.rotate_to.Given as goal

abbrev pub ghost-then : goal.ghost-then
ghost-then g a = after a.self.now.state Rotate
