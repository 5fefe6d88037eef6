use Rattle.lsm_machine.specs.Calls.{Commit}
use Rattle.lsm_machine.specs.Effects.{after}
use Rattle.lsm_store.proofs.memory.Memory.tell_committed.Given as goal

abbrev pub ghost-then_by_batch : goal.ghost-then_by_batch
ghost-then_by_batch g a = after a.self.now.state (Commit a._batch.now)
