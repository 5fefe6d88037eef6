use Rattle.std.proofs.lemmas.Result.{err_from_is_err_and}
use Rattle.lsm_lives.specs.Calls.{told_of}
use Rattle.lsm_shared.proofs.AtWork.{chooses}
use Rattle.lsm_shared.proofs.worker.choose.Goals as goal

pub returns-in_err-taken : goal.returns-in_err-taken
returns-in_err-taken g c =
    let p = err_from_is_err_and c.from_residual.result c.from_residual.ensures.1 in
    rw (p.1, p.2) c.in_err-taken.ensures

pub returns : goal.returns
returns g c = chooses told_of c.in_ok-taken.taken _ _ _ c.is_some.ensures c.in_ok-taken.ensures
