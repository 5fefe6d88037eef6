use Rattle.lsm_machine.specs.Calls.{Sync}
use Rattle.lsm_machine.specs.Effects.{after}
use Rattle.lsm_store.proofs.memory.Memory.mark_synced.Given as goal

abbrev pub ghost-then : goal.ghost-then
ghost-then g a = after a.self.now.state Sync
