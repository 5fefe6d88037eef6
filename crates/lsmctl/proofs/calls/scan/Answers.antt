use Rattle.std.proofs.Common.{None}
use Rattle.std.proofs.lemmas.Result.{err_from_is_err_and}
use Rattle.lsm_machine.specs.Calls.{Scan}
use Rattle.lsm_machine.specs.declared.asked.At.TheVariants.{Now}
use Rattle.lsmctl.specs.Answers.{HasRows}
use Rattle.lsmctl.specs.Refusing.{RefusesToTell}
use Rattle.lsmctl.proofs.RefusedLaws.{closed_answers, not_opened, opened_refuses}
use Rattle.lsmctl.proofs.calls.scan.Goals as goal

pub returns-clause-gives : goal.returns-clause-gives
returns-clause-gives g c =
    closed_answers (HasRows c.args.from.now c.args.limit) c.in_ok-store.store c.list-done.new.store _ _ c.in_ok-store.ensures.opened c.list-done.ensures.gives c.closed.ensures.answer

pub returns-clause-refused : goal.returns-clause-refused
returns-clause-refused g c =
    opened_refuses (RefusesToTell (Scan Now c.args.from.now None c.args.limit)) c.in_ok-store.store _ _ c.in_ok-store.ensures.opened c.list-done.ensures.refused c.closed.ensures.refused

pub returns-in_err-store-clause-refused : goal.returns-in_err-store-clause-refused
returns-in_err-store-clause-refused g c =
    let p = err_from_is_err_and c.from_residual.result c.from_residual.ensures.1 in rw (p.1, p.2) (not_opened (RefusesToTell (Scan Now c.args.from.now None c.args.limit)) _ c.in_err-store.ensures.refused)
