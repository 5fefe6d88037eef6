use Rattle.lsm_lives.proofs.Beginnings.{kept_batches, kept_on}
use Rattle.lsm_lives.proofs.law.promise_keeps_batches.Goals as goal

pub returns-clause-batches : goal.returns-clause-batches
returns-clause-batches c = kept_batches

pub returns-clause-device : goal.returns-clause-device
returns-clause-device c = kept_on
