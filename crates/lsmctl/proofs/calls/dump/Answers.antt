use Rattle.std.proofs.Common.{◌≡◌, ℕ, List, Option, rules, refl, subst, sym}
use Rattle.std.proofs.lemmas.Result.{err_from_is_err_and}
use Rattle.lsm_language.specs.Faults.{Reason, reason_of}
use Rattle.lsmctl.specs.Answers.{TellsDumped}
use Rattle.lsmctl.specs.Dumping.{pages_lines}
use Rattle.lsmctl.proofs.DumpingLaws.{tells_stopped, tells_unopened}
use Rattle.lsmctl.proofs.calls.dump.Goals as goal

pub returns-in-Ok-clause-answer : goal.returns-in-Ok-clause-answer
returns-in-Ok-clause-answer g c = record {
  printed = pages_lines c.in-Ok.ensures.pages;
  appends = c.in-Ok.ensures.prints;
  dumps = record {
    store = c.in_ok-store.store;
    after = c.dump_rows.new.store;
    opened = search rules;
    tells = record {
      pages = c.in-Ok.ensures.pages;
      walks = c.in-Ok.ensures.walks;
      lines = refl;
      told = search rules;
    };
    hands = search rules;
  };
}

pub returns-in_err-store-clause-fault : goal.returns-in_err-store-clause-fault
returns-in_err-store-clause-fault g c =
    let p = err_from_is_err_and c.from_residual.result c.from_residual.ensures.1 in rw (p.1, p.2) (tells_unopened _ _ c.in_err-store.ensures.refused)

-- with what the system said, the reason is the same
reason_told : (told why : Reason) (output output_after : Option (List ℕ)) → told ≡ why → TellsDumped why output output_after → TellsDumped told output output_after
reason_told told why output output_after same tells = subst (λ (r : Reason). TellsDumped r output output_after) (sym same) tells

pub returns-in-Err-clause-fault : goal.returns-in-Err-clause-fault
returns-in-Err-clause-fault g c =
    let before = g.O.Write.contents c.args.output.now in
    let after = g.O.Write.contents c.dump_rows.new.output in
    reason_told (reason_of c.with_error.result) (reason_of c.in-Err.fault) before after c.with_error.ensures
    (tells_stopped (reason_of c.in-Err.fault) c.in_ok-store.store before after c.in_ok-store.ensures.opened c.in-Err.ensures)
