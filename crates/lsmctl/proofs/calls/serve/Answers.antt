use Rattle.std.proofs.lemmas.Result.{err_from_is_err_and}
use Rattle.lsm_language.specs.Faults.{reason_of}
use Rattle.lsmctl.proofs.ServingLaws.{no_reader, served_answers, served_refuses, served_to, unopened_serves}
use Rattle.lsmctl.proofs.calls.serve.Goals as goal

pub returns-in-Ok-clause-answer : goal.returns-in-Ok-clause-answer
returns-in-Ok-clause-answer g c = served_answers c.in_ok-store.store c.serve.new.store _ _ _ _ _ c.in_ok-store.ensures.opened c.in_ok-lines.ensures.lines c.in-Ok.ensures c.served.ensures.answer

pub returns-in-Ok-clause-fault : goal.returns-in-Ok-clause-fault
returns-in-Ok-clause-fault g c = served_refuses c.in_ok-store.store c.serve.new.store _ _ _ _ _ c.in_ok-store.ensures.opened c.in_ok-lines.ensures.lines c.in-Ok.ensures c.served.ensures.fault

pub returns-in_err-store-clause-fault : goal.returns-in_err-store-clause-fault
returns-in_err-store-clause-fault g c =
    let p = err_from_is_err_and c.from_residual.result c.from_residual.ensures.1 in rw (p.1, p.2) (unopened_serves _ _ _ c.in_err-store.ensures.refused)

pub returns-in_err-lines-clause-fault : goal.returns-in_err-lines-clause-fault
returns-in_err-lines-clause-fault g c =
    let p = err_from_is_err_and c.from_residual-in_err-lines.result c.from_residual-in_err-lines.ensures.1 in
    rw p.1 (no_reader _ _ _ _ c.in_err-lines.ensures.refused p.2)

pub returns-clause-fault : goal.returns-clause-fault
returns-clause-fault g c =
    served_to c.in_ok-store.store c.serve.new.store c.in-Err.fault (reason_of c.with_error.result) _ _ (g.O.Write.contents c.args.output.now) (g.O.Write.contents c.serve.new.output)
    c.in_ok-store.ensures.opened c.in_ok-lines.ensures.lines c.in-Err.ensures c.with_error.ensures
