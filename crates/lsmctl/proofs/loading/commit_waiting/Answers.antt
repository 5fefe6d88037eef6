use Rattle.std.proofs.Common.{refl}
use Rattle.std.proofs.lemmas.Result.{err_from_is_err_and}
use Rattle.lsmctl.proofs.LoadingLaws.{commits}
use Rattle.lsmctl.proofs.loading.commit_waiting.Goals as goal

pub returns : goal.returns
returns g c = commits c.args.loading.now c.args.store.now c.commit_batch.new.store c.in_ok-commit_batch.ensures

pub returns-in_err-commit_batch : goal.returns-in_err-commit_batch
returns-in_err-commit_batch g c =
    let p = err_from_is_err_and c.from_residual.result c.from_residual.ensures.1 in
    rw (p.1, p.2) (refl, c.in_err-commit_batch.ensures)
