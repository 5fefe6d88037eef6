use Rattle.std.proofs.Common.{rules, Some, None}
use Rattle.std.proofs.lemmas.Result.{err_from_is_err_and}
use Rattle.lsm_machine.specs.Calls.{Get}
use Rattle.lsm_machine.specs.declared.asked.At.TheVariants.{Now}
use Rattle.lsmctl.proofs.RefusedLaws.{tell_refused}
use Rattle.lsmctl.proofs.calls.find.Goals as goal

pub returns-in_ok-word-in-Some-clause-gives : goal.returns-in_ok-word-in-Some-clause-gives
returns-in_ok-word-in-Some-clause-gives g c = record {
  value = Some c.in-Some.value.items;
  serves = search rules;
  told = search rules;
}

pub returns-in-None-clause-gives : goal.returns-in-None-clause-gives
returns-in-None-clause-gives g c = record {
  value = None;
  serves = search rules;
  told = search rules;
}

pub returns-in_err-value-clause-refused : goal.returns-in_err-value-clause-refused
returns-in_err-value-clause-refused g c =
    let p = err_from_is_err_and c.from_residual.result c.from_residual.ensures.1 in rw (p.1, p.2) (tell_refused (Get Now c.args.key.now) c.args.store.now _ _ c.in_err-value.ensures.serves)
