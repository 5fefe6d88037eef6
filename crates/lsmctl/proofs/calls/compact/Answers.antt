use Rattle.std.proofs.lemmas.Result.{err_from_is_err_and}
use Rattle.lsmctl.specs.Answers.{HasCompacted}
use Rattle.lsmctl.specs.Refusing.{RefusesToCompact}
use Rattle.lsmctl.proofs.RefusedLaws.{closed_answers, not_opened, opened_refuses}
use Rattle.lsmctl.proofs.calls.compact.Goals as goal

pub returns-clause-gives : goal.returns-clause-gives
returns-clause-gives g c =
    closed_answers HasCompacted c.in_ok-store.store c.keep_and_compact-done.new.store _ _ c.in_ok-store.ensures.opened c.keep_and_compact-done.ensures.gives c.closed.ensures.answer

pub returns-clause-refused : goal.returns-clause-refused
returns-clause-refused g c =
    opened_refuses RefusesToCompact c.in_ok-store.store _ _ c.in_ok-store.ensures.opened c.keep_and_compact-done.ensures.refused c.closed.ensures.refused

pub returns-in_err-store-clause-refused : goal.returns-in_err-store-clause-refused
returns-in_err-store-clause-refused g c =
    let p = err_from_is_err_and c.from_residual.result c.from_residual.ensures.1 in rw (p.1, p.2) (not_opened RefusesToCompact _ c.in_err-store.ensures.refused)
