use Rattle.lsm_store.proofs.WrittenMerge.{merge_written}
use Rattle.lsm_store.proofs.install_law.written_merges_are_merged.Goals as goal

pub returns : goal.returns
returns c = λ m p xs ys d job slot outputs i upper lower sound stored named tables found merge stage made numbers. merge_written m p xs ys d job slot outputs i upper lower sound stored named tables found merge stage made numbers
