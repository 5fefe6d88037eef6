use Rattle.std.proofs.Common.{rules, inr}
use Rattle.std.proofs.lemmas.Result.{err_from_is_err_and}
use Rattle.lsmctl.proofs.RefusedLaws.{refused_wider}
use Rattle.lsmctl.proofs.calls.format.Goals as goal

pub returns-in_ok-put_in_place-in-Ok-clause-gives : goal.returns-in_ok-put_in_place-in-Ok-clause-gives
returns-in_ok-put_in_place-in-Ok-clause-gives g c = record {
  file = c.in-Ok.device;
  size = search rules;
  made = search rules;
  no_fault = search rules;
  hands = search rules;
  told = search rules;
}

pub returns-in_err-put_in_place-in-Ok-clause-refused : goal.returns-in_err-put_in_place-in-Ok-clause-refused
returns-in_err-put_in_place-in-Ok-clause-refused g c =
    let p = err_from_is_err_and c.from_residual-in_err-put_in_place-in-Ok.result c.from_residual-in_err-put_in_place-in-Ok.ensures.1 in
    rw (p.1, p.2) (refused_wider _ _ _ (λ e is. inr is) c.in_err-put_in_place-in-Ok.ensures.refused)
