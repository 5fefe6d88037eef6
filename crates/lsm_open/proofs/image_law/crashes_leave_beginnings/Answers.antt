use Rattle.lsm_open.proofs.HeldPlacements.{carried_leaves, carried_reads}
use Rattle.lsm_open.proofs.image_law.crashes_leave_beginnings.Goals as goal

pub returns-clause-crashes : goal.returns-clause-crashes
returns-clause-crashes c = λ p d carried. carried_leaves p d carried

pub returns-clause-reads : goal.returns-clause-reads
returns-clause-reads c = λ p d carried. carried_reads p d carried
