use Rattle.std.proofs.Common.{rules}
use Rattle.lsm_log.proofs.read_batches.ReadBatches.end_batch.Goals as goal

pub returns-in_default-clause-ended : goal.returns-in_default-clause-ended
returns-in_default-clause-ended g c = search rules
