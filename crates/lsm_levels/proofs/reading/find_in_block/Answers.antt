use Rattle.std.proofs.Common.{sym, ◌∙◌}
use Rattle.std.proofs.lemmas.Result.{err_from_is_err_and}
use Rattle.lsm_table.specs.Items.{items_at}
use Rattle.lsm_levels.proofs.ToldLaws.{said_refused}
use Rattle.lsm_levels.proofs.reading.find_in_block.Goals as goal

pub returns-in_err-test_from : goal.returns-in_err-test_from
returns-in_err-test_from c =
    let p = err_from_is_err_and c.from_residual.result c.from_residual.ensures.1 in
    let items = items_at c.loop-span.place c.args.block.now in
    rw (p.1, p.2) (sym (said_refused c.args.key.now c.args.at items c.in_err-test_from.field-0.0 c.in_err-test_from.ensures) ∙ c.loop-span.invariant)
