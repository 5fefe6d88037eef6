use Rattle.std.proofs.lemmas.Result.{err_from_is_err_and}
use Rattle.lsm_serve.proofs.ServingLaws.{served-fails-when, served-when}
use Rattle.lsm_serve.proofs.serving.serve.Goals as goal

pub returns-in_err-answered : goal.returns-in_err-answered
returns-in_err-answered g c =
    let p = err_from_is_err_and c.from_residual.result c.from_residual.ensures.1 in
    rw (p.1, p.2) (served-fails-when _ _ _ _ _ _ _ _ _ c.in_err-answered.was c.answer_lines-answered.ensures c.sync-synced.ensures)

pub returns : goal.returns
returns g c = served-when _ _ _ _ _ _ _ _ c.in_ok-answered.was c.answer_lines-answered.ensures c.sync-synced.ensures
