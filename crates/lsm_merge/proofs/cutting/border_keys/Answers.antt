use Rattle.std.proofs.Common.{arith}
use Rattle.lsm_merge.proofs.BorderLaws.{some_ascending, some_few}
use Rattle.lsm_merge.proofs.cutting.border_keys.Goals as goal

pub returns-clause-ascending : goal.returns-clause-ascending
returns-clause-ascending g c = some_ascending c.longest-run.result.now c.args.parts c.in_ok-borders_of_run.field-0.items c.in_ok-borders_of_run.ensures

pub returns-clause-few : goal.returns-clause-few
returns-clause-few g c = some_few c.longest-run.result.now c.args.parts c.in_ok-borders_of_run.field-0.items c.in_ok-borders_of_run.ensures (omega arith)
