use Rattle.std.proofs.Common.{rules}
use Rattle.lsm_open.proofs.recovered.begin.Goals as goal

pub returns-clause-stands : goal.returns-clause-stands
returns-clause-stands g c = λ t. c.in_ok-sync.ensures.stands t

pub returns-clause-counted : goal.returns-clause-counted
returns-clause-counted g c = λ size. c.in_ok-sync.ensures.counted

pub returns-clause-made : goal.returns-clause-made
returns-clause-made g c = search rules
