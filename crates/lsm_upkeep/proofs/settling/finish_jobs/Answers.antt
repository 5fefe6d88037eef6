use Rattle.std.proofs.Common.{inl, inr, refl, arith}
use Rattle.lsm_upkeep.proofs.FinishingLaws.{are_done-more}
use Rattle.lsm_upkeep.proofs.settling.finish_jobs.Goals as goal

pub returns-then-not-finish_next : goal.returns-then-not-finish_next
returns-then-not-finish_next g c = record {
  count = c.loop.counter;
  last = c.loop.store;
  finished = c.loop.invariant;
  ends = inr (omega (arith, c.loop-test.true), c.finish_next.ensures.undone c.if-not-finish_next.true);
}

pub loop-preserved : goal.loop-preserved
loop-preserved g c = are_done-more c.loop.counter c.args.store.now c.loop.store c.finish_next.new.store c.loop.invariant (c.finish_next.ensures.finished c.if-not-finish_next.false)

pub returns : goal.returns
returns g c = record {
  count = c.loop.counter;
  last = c.loop.store;
  finished = c.loop.invariant;
  ends = inl (omega (arith, c.loop-test.false, c.loop.auto.counter-end), refl);
}
