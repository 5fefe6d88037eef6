use Rattle.std.proofs.Common.{refl, arith}
use Rattle.lsm_machine.specs.State.{are_waiting}
use Rattle.lsm_upkeep.proofs.FlushingLaws.{idle-not_waiting, idle-not_true, tries-before, tries-upkept}
use Rattle.lsm_upkeep.proofs.Upkept.{stays, then}
use Rattle.lsm_upkeep.proofs.flushing.flush.Goals as goal

pub loop-init : goal.loop-init
loop-init g c = (stays c.args.store.now c.args.store.now refl, λ some. absurd (omega (arith, some)))

pub returns-then-not-is_waiting-clause-upkept : goal.returns-then-not-is_waiting-clause-upkept
returns-then-not-is_waiting-clause-upkept g c = c.loop.invariant.0

pub returns-then-not-is_waiting-clause-finished : goal.returns-then-not-is_waiting-clause-finished
returns-then-not-is_waiting-clause-finished g c = λ e. idle-not_waiting c.loop.store c.is_waiting.result (are_waiting c.loop.store.state) c.is_waiting.ensures c.if-not-is_waiting.true

pub returns-then-not-try_next-clause-upkept : goal.returns-then-not-try_next-clause-upkept
returns-then-not-try_next-clause-upkept g c = then c.args.store.now c.loop.store c.try_next.new.store c.loop.invariant.0 (tries-upkept c.loop.store c.try_next.new.store c.try_next.ensures)

pub returns-then-not-try_next-clause-tried : goal.returns-then-not-try_next-clause-tried
returns-then-not-try_next-clause-tried g c = λ e. tries-before c.args.store.now c.loop.store c.try_next.new.store c.loop.invariant.0 c.try_next.ensures

pub loop-preserved : goal.loop-preserved
loop-preserved g c = (
  then c.args.store.now c.loop.store c.try_next.new.store c.loop.invariant.0 (tries-upkept c.loop.store c.try_next.new.store c.try_next.ensures),
  λ some. tries-before c.args.store.now c.loop.store c.try_next.new.store c.loop.invariant.0 c.try_next.ensures,
)

pub returns-clause-upkept : goal.returns-clause-upkept
returns-clause-upkept g c = c.loop.invariant.0

pub returns-clause-finished : goal.returns-clause-finished
returns-clause-finished g c = λ e. idle-not_true c.loop.store c.is_waiting-2.result (are_waiting c.loop.store.state) c.is_waiting-2.ensures e

pub returns-clause-tried : goal.returns-clause-tried
returns-clause-tried g c = λ e. c.loop.invariant.1 (omega (arith, c.loop-test.false, c.loop.auto.counter-end))
