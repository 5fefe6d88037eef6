use Rattle.lsm_machine.specs.Calls.{Snapshot}
use Rattle.lsm_machine.specs.Effects.{after}
use Rattle.lsm_store.proofs.memory.Memory.tell_taken.Given as goal

abbrev pub ghost-then : goal.ghost-then
ghost-then g a = after a.self.now.state Snapshot
