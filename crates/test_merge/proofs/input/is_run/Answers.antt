use Rattle.std.proofs.Common.{◌∙◌, sym}
use Rattle.lsm_mem.proofs.OrderTests.{ordered_tested}
use Rattle.test_merge.proofs.input.is_run.Goals as goal

pub returns : goal.returns
returns g c = λ t. ordered_tested c.args.entries.now (sym c.is_in_order.ensures ∙ t)
