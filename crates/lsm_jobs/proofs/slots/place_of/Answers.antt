use Rattle.std.proofs.Common.{arith}
use Rattle.lsm_jobs.proofs.Walked.{place_further, place_here, place_nowhere}
use Rattle.lsm_jobs.proofs.slots.place_of.Goals as goal

pub loop-place-preserved : goal.loop-place-preserved
loop-place-preserved g c = place_further c.args.slots.now c.loop-place.place c.index-slots-place.result c.loop-place-test.true c.index-slots-place.is c.args.number _ c.loop-place.invariant c.if-is_of.ensures

pub returns-then-is_of : goal.returns-then-is_of
returns-then-is_of g c = place_here c.args.slots.now c.loop-place.place c.index-slots-place.result c.loop-place-test.true c.index-slots-place.is c.args.number _ c.loop-place.invariant c.if-is_of.ensures

pub returns : goal.returns
returns g c = place_nowhere c.args.slots.now c.loop-place.place c.args.number _ (omega (arith, c.loop-place-test.false)) c.loop-place.invariant
