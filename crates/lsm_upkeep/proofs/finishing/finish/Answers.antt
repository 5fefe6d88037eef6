use Rattle.std.proofs.Common.{inl, inr}
use Rattle.std.proofs.lemmas.Result.{err_from_is_err_and}
use Rattle.lsm_upkeep.proofs.FinishingLaws.{finished-answered, refused-holds}
use Rattle.lsm_upkeep.proofs.finishing.finish.Goals as goal

pub returns-in_err-read : goal.returns-in_err-read
returns-in_err-read g c =
    let p = err_from_is_err_and c.from_residual.result c.from_residual.ensures.1 in
    refused-holds _ _ c.from_residual.result p.0 p.1 (inl c.in_err-read.ensures)

pub returns-in_err-job_merge : goal.returns-in_err-job_merge
returns-in_err-job_merge g c =
    let p = err_from_is_err_and c.from_residual-in_err-job_merge.result c.from_residual-in_err-job_merge.ensures.1 in
    refused-holds _ _ c.from_residual-in_err-job_merge.result p.0 p.1 (inr (_, c.in_ok-read.ensures, inl (_, _, c.in_err-job_merge.ensures.works)))

pub returns-in_err-write : goal.returns-in_err-write
returns-in_err-write g c =
    let p = err_from_is_err_and c.from_residual-in_err-write.result c.from_residual-in_err-write.ensures.1 in
    refused-holds _ _ c.from_residual-in_err-write.result p.0 p.1 (inr (_, c.in_ok-read.ensures, inr (_, (_, c.in_ok-job_merge.ensures.works), inl c.in_err-write.ensures)))

pub returns : goal.returns
returns g c = finished-answered c.args.taken.number c.args.taken.level _ _ _ _ _ c.job_install.result c.in_ok-read.ensures (_, c.in_ok-job_merge.ensures.works) c.in_ok-write.ensures c.job_install.ensures.works
