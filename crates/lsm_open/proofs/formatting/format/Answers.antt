use Rattle.std.proofs.Common.{rules}
use Rattle.lsm_open.proofs.EmptyStores.{formatted_leaves}
use Rattle.lsm_open.proofs.formatting.format.Goals as goal

pub returns-in-Ok-clause-leaves : goal.returns-in-Ok-clause-leaves
returns-in-Ok-clause-leaves g c = λ tells. formatted_leaves c.args.log_sectors _ (c.in-Ok.ensures.formatted tells)

pub returns-in-Ok-clause-faults : goal.returns-in-Ok-clause-faults
returns-in-Ok-clause-faults g c = search rules

pub returns-in-Ok-clause-stops : goal.returns-in-Ok-clause-stops
returns-in-Ok-clause-stops g c = search rules
