use Rattle.std.proofs.Common.{inl, inr, refl, arith}
use Rattle.lsm_upkeep.proofs.FlushingLaws.{first-again, first-behind, first-some}
use Rattle.lsm_upkeep.proofs.Upkept.{stays, then}
use Rattle.lsm_upkeep.proofs.compacting.compact.Goals as goal

pub loop-init : goal.loop-init
loop-init g c = (stays c.args.store.now c.args.store.now refl, inl (refl, refl))

pub returns-then-not-flush-clause-upkept : goal.returns-then-not-flush-clause-upkept
returns-then-not-flush-clause-upkept g c = then c.args.store.now c.loop.store c.flush.new.store c.loop.invariant.0 c.flush.ensures.upkept

pub returns-then-not-flush-clause-flushes : goal.returns-then-not-flush-clause-flushes
returns-then-not-flush-clause-flushes g c =
    first-again c.loop.counter c.flush.result c.args.store.now c.loop.store c.flush.new.store c.loop.invariant.1 c.flush.ensures.upkept c.flush.ensures.finished c.flush.ensures.tried

pub returns-then-not-finish_wanted-clause-upkept : goal.returns-then-not-finish_wanted-clause-upkept
returns-then-not-finish_wanted-clause-upkept g c =
    then c.args.store.now c.flush.new.store c.finish_wanted.new.store (then c.args.store.now c.loop.store c.flush.new.store c.loop.invariant.0 c.flush.ensures.upkept) c.finish_wanted.ensures

pub returns-then-not-finish_wanted-clause-flushes : goal.returns-then-not-finish_wanted-clause-flushes
returns-then-not-finish_wanted-clause-flushes g c = first-behind c.args.store.now c.flush.new.store c.finish_wanted.new.store
    (first-again c.loop.counter c.flush.result c.args.store.now c.loop.store c.flush.new.store c.loop.invariant.1 c.flush.ensures.upkept c.flush.ensures.finished c.flush.ensures.tried) c.finish_wanted.ensures

pub loop-preserved : goal.loop-preserved
loop-preserved g c = (
  then c.args.store.now c.flush.new.store c.finish_wanted.new.store (then c.args.store.now c.loop.store c.flush.new.store c.loop.invariant.0 c.flush.ensures.upkept) c.finish_wanted.ensures,
  inr (first-behind c.args.store.now c.flush.new.store c.finish_wanted.new.store
      (first-again c.loop.counter c.flush.result c.args.store.now c.loop.store c.flush.new.store c.loop.invariant.1 c.flush.ensures.upkept c.flush.ensures.finished c.flush.ensures.tried) c.finish_wanted.ensures),
)

pub returns-clause-upkept : goal.returns-clause-upkept
returns-clause-upkept g c = c.loop.invariant.0

pub returns-clause-flushes : goal.returns-clause-flushes
returns-clause-flushes g c = first-some c.loop.counter c.args.store.now c.loop.store (omega (arith, c.loop-test.false, c.loop.auto.counter-end)) c.loop.invariant.1
