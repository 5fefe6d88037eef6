use Rattle.std.proofs.lemmas.Result.{err_from_is_err_and}
use Rattle.lsm_serve.proofs.ServingLaws.{served-unwritten, served-written}
use Rattle.lsm_serve.proofs.serving.answer_lines.Goals as goal

pub returns-in_err-write_held : goal.returns-in_err-write_held
returns-in_err-write_held g c =
    let p = err_from_is_err_and c.from_residual.result c.from_residual.ensures.1 in
    rw (p.1, p.2) (served-unwritten _ c.hold_answers-answered.result _ _ _ _ _ _ _ c.hold_answers-answered.ensures c.in_err-write_held.ensures.0 c.in_err-write_held.ensures.1)

pub returns : goal.returns
returns g c = served-written _ _ _ _ _ _ _ _ c.hold_answers-answered.ensures c.in_ok-write_held.ensures.0
