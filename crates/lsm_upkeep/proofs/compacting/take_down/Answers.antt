use Rattle.std.proofs.Common.{inl, inr, refl, arith}
use Rattle.lsm_upkeep.proofs.FlushingLaws.{first-again, first-behind, first-some}
use Rattle.lsm_upkeep.proofs.Upkept.{stays, then}
use Rattle.lsm_upkeep.proofs.compacting.take_down.Goals as goal

pub loop-jobs-init : goal.loop-jobs-init
loop-jobs-init g c = (stays c.args.store.now c.args.store.now refl, inl (refl, refl))

pub returns-then-not-flush-clause-upkept : goal.returns-then-not-flush-clause-upkept
returns-then-not-flush-clause-upkept g c = then c.args.store.now c.loop-jobs.store c.flush.new.store c.loop-jobs.invariant.0 c.flush.ensures.upkept

pub returns-then-not-flush-clause-flushes : goal.returns-then-not-flush-clause-flushes
returns-then-not-flush-clause-flushes g c =
    first-again c.loop-jobs.jobs c.flush.result c.args.store.now c.loop-jobs.store c.flush.new.store c.loop-jobs.invariant.1 c.flush.ensures.upkept c.flush.ensures.finished c.flush.ensures.tried

pub loop-jobs-preserved : goal.loop-jobs-preserved
loop-jobs-preserved g c = (
  then c.args.store.now c.flush.new.store c.step_to_the_last.new.store (then c.args.store.now c.loop-jobs.store c.flush.new.store c.loop-jobs.invariant.0 c.flush.ensures.upkept) c.step_to_the_last.ensures,
  inr (first-behind c.args.store.now c.flush.new.store c.step_to_the_last.new.store
      (first-again c.loop-jobs.jobs c.flush.result c.args.store.now c.loop-jobs.store c.flush.new.store c.loop-jobs.invariant.1 c.flush.ensures.upkept c.flush.ensures.finished c.flush.ensures.tried) c.step_to_the_last.ensures),
)

pub returns-clause-upkept : goal.returns-clause-upkept
returns-clause-upkept g c = c.loop-jobs.invariant.0

pub returns-clause-flushes : goal.returns-clause-flushes
returns-clause-flushes g c = first-some c.loop-jobs.jobs c.args.store.now c.loop-jobs.store (omega (arith, c.loop-jobs-test.false, c.loop-jobs.auto.jobs-end)) c.loop-jobs.invariant.1

pub returns-in-ToTheEnd : goal.returns-in-ToTheEnd
returns-in-ToTheEnd g c = record {
  upkept = then c.args.store.now c.flush.new.store c.step_to_the_last.new.store (then c.args.store.now c.loop-jobs.store c.flush.new.store c.loop-jobs.invariant.0 c.flush.ensures.upkept) c.step_to_the_last.ensures;
  flushes = first-behind c.args.store.now c.flush.new.store c.step_to_the_last.new.store
      (first-again c.loop-jobs.jobs c.flush.result c.args.store.now c.loop-jobs.store c.flush.new.store c.loop-jobs.invariant.1 c.flush.ensures.upkept c.flush.ensures.finished c.flush.ensures.tried) c.step_to_the_last.ensures;
}
