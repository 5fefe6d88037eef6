use Rattle.lsm_machine.specs.Calls.{Commit}
use Rattle.lsm_machine.specs.Run.{stopped_in}
use Rattle.lsm_store.proofs.memory.Memory.stop_in_commit.Given as goal

abbrev pub ghost-then_by_batch : goal.ghost-then_by_batch
ghost-then_by_batch g a = stopped_in a.self.now.state (Commit a._batch.now)
