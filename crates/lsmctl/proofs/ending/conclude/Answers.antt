use Rattle.std.proofs.Common.{rules, subst, sym, ◌≤◌}
use Rattle.lsmctl.proofs.EndingLaws.{status_after-at_most}
use Rattle.lsmctl.proofs.ending.conclude.Goals as goal

pub returns-in-Err-clause-concludes : goal.returns-in-Err-clause-concludes
returns-in-Err-clause-concludes g c = search rules

pub returns-in-Ok-clause-status : goal.returns-in-Ok-clause-status
returns-in-Ok-clause-status g c = subst (λ n. n ≤ 2) (sym c.status.ensures) (status_after-at_most c.args.answered.now c.print_or_tell.result)

pub returns-in-Err-clause-status : goal.returns-in-Err-clause-status
returns-in-Err-clause-status g c = subst (λ n. n ≤ 2) (sym c.status-in-Err.ensures) (status_after-at_most c.args.answered.now c.report.result)
