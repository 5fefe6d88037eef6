use Rattle.std.proofs.lemmas.Result.{err_from_is_err_and}
use Rattle.lsm_jobs.proofs.slots.Slots.accept.Goals as goal

pub returns-in_err-check_result-clause-refused : goal.returns-in_err-check_result-clause-refused
returns-in_err-check_result-clause-refused g c =
    let p = err_from_is_err_and c.from_residual.result c.from_residual.ensures.1 in
    rw (p.1, p.2) (c.in_err-check_result.ensures.refused c.args.next_table c.args.extents.now)
