use Rattle.std.proofs.Common.{arith}
use Rattle.lsm_jobs.proofs.Walked.{free_further, free_here, free_nowhere}
use Rattle.lsm_jobs.proofs.slots.free_place.Goals as goal

pub loop-place-preserved : goal.loop-place-preserved
loop-place-preserved g c = free_further c.args.slots.now c.loop-place.place c.index-slots-place.result c.loop-place-test.true c.index-slots-place.is _ c.loop-place.invariant c.if-is_none.ensures

pub returns-then-is_none : goal.returns-then-is_none
returns-then-is_none g c = free_here c.args.slots.now c.loop-place.place c.index-slots-place.result c.loop-place-test.true c.index-slots-place.is _ c.loop-place.invariant c.if-is_none.ensures

pub returns : goal.returns
returns g c = free_nowhere c.args.slots.now c.loop-place.place _ (omega (arith, c.loop-place-test.false)) c.loop-place.invariant
