use Rattle.std.proofs.lemmas.Result.{err_from_is_err_and}
use Rattle.lsm_machine.specs.Work.{Write}
use Rattle.lsm_upkeep.proofs.FinishingLaws.{left-first, left-again, held_up-first, held_up-later, held_up-no_fewer, none-left, refused-holds}
use Rattle.lsm_upkeep.proofs.finishing.write.Goals as goal

pub returns-in_err-left : goal.returns-in_err-left
returns-in_err-left g c =
    let p = err_from_is_err_and c.from_residual.result c.from_residual.ensures.1 in
    refused-holds _ _ c.from_residual.result p.0 p.1 (held_up-first (Write c.args.job) _ _ _ c.in_err-left.ensures.works)

pub loop-left-init : goal.loop-left-init
loop-left-init g c = left-first (Write c.args.job) c.in_ok-left.left _ _ c.in_ok-left.ensures.works

pub returns-in_err-now : goal.returns-in_err-now
returns-in_err-now g c =
    let p = err_from_is_err_and c.from_residual-in_err-now.result c.from_residual-in_err-now.ensures.1 in
    refused-holds _ _ c.from_residual-in_err-now.result p.0 p.1 (held_up-later (Write c.args.job) c.loop-left.left _ _ _ _ c.loop-left-test.true c.loop-left.invariant c.in_err-now.ensures.works)

pub returns-then-now-left : goal.returns-then-now-left
returns-then-now-left g c = held_up-no_fewer (Write c.args.job) c.loop-left.left c.in_ok-now.now _ _ _ c.loop-left-test.true c.if-now-left.true c.loop-left.invariant c.in_ok-now.ensures.works

pub loop-left-preserved : goal.loop-left-preserved
loop-left-preserved g c = left-again (Write c.args.job) c.loop-left.left c.in_ok-now.now _ _ _ c.loop-left-test.true c.loop-left.invariant c.in_ok-now.ensures.works

pub returns : goal.returns
returns g c = none-left (Write c.args.job) c.loop-left.left _ _ c.loop-left-test.false c.loop-left.invariant
