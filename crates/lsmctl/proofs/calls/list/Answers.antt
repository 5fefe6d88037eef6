use Rattle.std.proofs.Common.{rules, None}
use Rattle.std.proofs.lemmas.Result.{err_from_is_err_and}
use Rattle.lsm_machine.specs.Calls.{Scan}
use Rattle.lsm_machine.specs.declared.asked.At.TheVariants.{Now}
use Rattle.lsmctl.proofs.RefusedLaws.{tell_refused}
use Rattle.lsmctl.proofs.calls.list.Goals as goal

pub returns-clause-gives : goal.returns-clause-gives
returns-clause-gives g c = record {
  page = c.in_ok-page.page;
  serves = search rules;
  told = search rules;
}

pub returns-in_err-page-clause-refused : goal.returns-in_err-page-clause-refused
returns-in_err-page-clause-refused g c =
    let p = err_from_is_err_and c.from_residual.result c.from_residual.ensures.1 in rw (p.1, p.2) (tell_refused (Scan Now c.args.from.now None c.args.limit) c.args.store.now _ _ c.in_err-page.ensures.serves)
