use Rattle.std.proofs.Common.{refl}
use Rattle.std.proofs.lemmas.Result.{err_from_is_err_and}
use Rattle.lsmctl.proofs.LoadingLaws.{loaded-synced, refuses_synced}
use Rattle.lsmctl.proofs.loading.load_rows.Goals as goal

pub returns-clause-loads : goal.returns-clause-loads
returns-clause-loads g c = loaded-synced _ _ _ _ _ _ c.load_all-ended.ensures refl c.in_ok-sync.ensures.serves

pub returns-in_err-sync-clause-refused : goal.returns-in_err-sync-clause-refused
returns-in_err-sync-clause-refused g c =
    let p = err_from_is_err_and c.from_residual.result c.from_residual.ensures.1 in
    rw (p.1, p.2) (refuses_synced _ _ _ _ _ _ _ c.load_all-ended.ensures c.in_err-sync.ensures.serves)
