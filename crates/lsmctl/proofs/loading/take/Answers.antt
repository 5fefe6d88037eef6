use Rattle.std.proofs.Common.{refl, inl, inr}
use Rattle.std.proofs.lemmas.Result.{err_from_is_err_and}
use Rattle.lsmctl.proofs.LoadingLaws.{not_fit}
use Rattle.lsmctl.proofs.ReadingLaws.{alone_unfit, refused_unfit, stays_unfit, taken_when}
use Rattle.lsmctl.proofs.loading.take.Goals as goal

pub returns-in_err-fits : goal.returns-in_err-fits
returns-in_err-fits g c =
    let p = err_from_is_err_and c.from_residual.result c.from_residual.ensures.1 in
    rw (p.1, p.2) (inl (c.in_err-fits.ensures.refused, not_fit c.args.loading.now c.fits.new.loading c.args.store.now c.in_err-fits.ensures.fits))

pub returns-then-branch : goal.returns-then-branch
returns-then-branch g c = taken_when c.in_ok-fits.field-0 c.args.row c.args.loading.now c.fits.new.loading c.args.store.now c.if-branch.true c.in_ok-fits.ensures.fits

pub returns-in_err-commit_waiting : goal.returns-in_err-commit_waiting
returns-in_err-commit_waiting g c =
    let p = err_from_is_err_and c.from_residual-in_err-commit_waiting.result c.from_residual-in_err-commit_waiting.ensures.1 in
    rw (p.1, p.2) (inr (refused_unfit c.in_ok-fits.field-0 c.args.row _ _ _ _ _ _ c.if-branch.false c.in_ok-fits.ensures.fits c.in_err-commit_waiting.ensures))

pub returns-in_err-new : goal.returns-in_err-new
returns-in_err-new g c =
    let p = err_from_is_err_and c.from_residual-in_err-new.result c.from_residual-in_err-new.ensures.1 in
    rw (p.1, p.2) (inl (c.in_err-new.ensures, stays_unfit c.in_ok-fits.field-0 c.args.row _ _ _ _ _ c.if-branch.false c.in_ok-fits.ensures.fits c.in_ok-commit_waiting.ensures))

pub returns : goal.returns
returns g c = alone_unfit c.in_ok-fits.field-0 c.args.row c.in_ok-new.field-0 _ _ _ _ _ _ c.if-branch.false c.in_ok-fits.ensures.fits c.in_ok-commit_waiting.ensures c.in_ok-new.ensures refl
