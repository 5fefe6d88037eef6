use Rattle.std.proofs.lemmas.Result.{err_from_is_err_and}
use Rattle.lsm_language.specs.Faults.{reason_of}
use Rattle.lsm_open.specs.Recovering.{IsOpeningRefusal}
use Rattle.lsmctl.proofs.LoadingLaws.{loaded_answers, loaded_tells, tells_refused, tells_unopened}
use Rattle.lsmctl.proofs.RefusedLaws.{memory_opening, told_as}
use Rattle.lsmctl.proofs.calls.load.Goals as goal

pub returns-in-Ok-clause-answer : goal.returns-in-Ok-clause-answer
returns-in-Ok-clause-answer g c =
    loaded_answers _ _ _ _ c.in-Ok.loaded c.in_ok-store.store c.keep_and_load.new.store _ c.in_ok-store.ensures.opened c.in_ok-lines.ensures.lines c.in-Ok.ensures.loads c.loaded_so.ensures.answer

pub returns-in-Ok-clause-fault : goal.returns-in-Ok-clause-fault
returns-in-Ok-clause-fault g c =
    loaded_tells _ _ _ _ c.in-Ok.loaded c.in_ok-store.store c.keep_and_load.new.store _ c.in_ok-store.ensures.opened c.in_ok-lines.ensures.lines c.in-Ok.ensures.loads c.loaded_so.ensures.fault

pub returns-in_err-store-clause-fault : goal.returns-in_err-store-clause-fault
returns-in_err-store-clause-fault g c =
    let p = err_from_is_err_and c.from_residual.result c.from_residual.ensures.1 in
    rw (p.1, p.2) (tells_unopened _ _ _ c.in_err-store.ensures.refused)

pub returns-in_err-lines-clause-fault : goal.returns-in_err-lines-clause-fault
returns-in_err-lines-clause-fault g c =
    let p = err_from_is_err_and c.from_residual-in_err-lines.result c.from_residual-in_err-lines.ensures.1 in
    rw p.1 (tells_unopened _ _ _ (told_as IsOpeningRefusal _ _ p.2 (memory_opening _ c.in_err-lines.ensures.refused)))

pub returns-clause-fault : goal.returns-clause-fault
returns-clause-fault g c =
    tells_refused (g.I.Read.remaining c.args.input.now) _ (g.O.Write.contents c.args.output.now) (reason_of c.failed.result) c.in-Err.reason c.in_ok-store.store c.failed.ensures
    c.in_ok-store.ensures.opened c.in_ok-lines.ensures.lines c.in-Err.ensures.refused
