use Rattle.lsm_store.proofs.WrittenFlush.{flush_written}
use Rattle.lsm_store.proofs.install_law.written_flushes_are_flushed.Goals as goal

pub returns : goal.returns
returns c = λ m p xs ys d job slot outputs sound stored sealed found flush stage made numbers. flush_written m p xs ys d job slot outputs sound stored sealed found flush stage made numbers
