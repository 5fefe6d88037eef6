use Rattle.std.specs.Prelude.{option_map}
use Rattle.std.proofs.lemmas.Result.{err_from_is_err_and}
use Rattle.lsmctl.specs.Commits.{HasCommitted}
use Rattle.lsmctl.specs.Refusing.{RefusesToCommit}
use Rattle.lsmctl.proofs.RefusedLaws.{closed_answers, not_opened, opened_refuses}
use Rattle.lsmctl.proofs.calls.commit.Goals as goal

pub returns-clause-gives : goal.returns-clause-gives
returns-clause-gives g c =
    closed_answers (HasCommitted (option_map (λ g. g.now) c.args.guards) c.args.batch.now) c.in_ok-store.store c.commit-done.new.store _ _ c.in_ok-store.ensures.opened c.commit-done.ensures.gives
    c.closed.ensures.answer

pub returns-clause-refused : goal.returns-clause-refused
returns-clause-refused g c =
    opened_refuses (RefusesToCommit (option_map (λ g. g.now) c.args.guards) c.args.batch.now) c.in_ok-store.store _ _ c.in_ok-store.ensures.opened c.commit-done.ensures.refused c.closed.ensures.refused

pub returns-in_err-store-clause-refused : goal.returns-in_err-store-clause-refused
returns-in_err-store-clause-refused g c =
    let p = err_from_is_err_and c.from_residual.result c.from_residual.ensures.1 in
    rw (p.1, p.2) (not_opened (RefusesToCommit (option_map (λ g. g.now) c.args.guards) c.args.batch.now) _ c.in_err-store.ensures.refused)
