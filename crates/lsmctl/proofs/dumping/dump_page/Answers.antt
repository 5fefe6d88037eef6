use Rattle.std.proofs.Common.{subst, sym}
use Rattle.std.proofs.lemmas.Result.{err_from_is_err_and}
use Rattle.lsm_language.specs.Faults.{Reason}
use Rattle.lsmctl.specs.Dumping.{StopsAtPage}
use Rattle.lsmctl.proofs.DumpingLaws.{page-held}
use Rattle.lsmctl.proofs.dumping.dump_page.Goals as goal

pub returns-in_err-page : goal.returns-in_err-page
returns-in_err-page g c =
    let p = err_from_is_err_and c.from_residual.result c.from_residual.ensures.1 in
    let output = g.O.Write.contents c.args.output.now in
    rw p.1 (subst (λ (reason : Reason). StopsAtPage reason c.args.walk.now c.args.store.now output output) (sym p.2) (page-held _ _ _ _ _ output c.in_err-page.ensures))
