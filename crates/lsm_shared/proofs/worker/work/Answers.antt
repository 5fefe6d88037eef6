use Rattle.std.proofs.Common.{arith}
use Rattle.std.proofs.lemmas.Result.{err_from_is_err_and}
use Rattle.lsm_shared.proofs.AtWork.{stays, one_more, idle_then, all_taken}
use Rattle.lsm_shared.proofs.worker.work.Goals as goal

pub returns-in_err-take_turn-clause-takes : goal.returns-in_err-take_turn-clause-takes
returns-in_err-take_turn-clause-takes g c =
    let p = err_from_is_err_and c.from_residual.result c.from_residual.ensures.1 in
    rw (p.1, p.2) (record { before = c.loop.counter; within = omega (arith, c.loop-test.true); mid = c.loop.me; takes = c.loop.invariant.1; refused = c.in_err-take_turn.ensures.takes })

pub returns-then-not-branch-clause-takes : goal.returns-then-not-branch-clause-takes
returns-then-not-branch-clause-takes g c = idle_then _ _ c.loop.counter _ _ _ _ c.if-not-branch.true (omega (arith, c.loop-test.true)) c.loop.invariant.1 c.in_ok-take_turn.ensures.takes

pub loop-preserved : goal.loop-preserved
loop-preserved g c = (
  stays _ _ _ c.loop.invariant.0 c.in_ok-take_turn.ensures.works,
  one_more _ c.loop.counter _ _ _ _ c.if-not-branch.false c.loop.invariant.1 c.in_ok-take_turn.ensures.takes,
)

pub returns-clause-takes : goal.returns-clause-takes
returns-clause-takes g c = all_taken _ _ c.loop.counter _ _ (omega (arith, c.loop-test.false, c.loop.auto.counter-end)) c.loop.invariant.1
