use Rattle.std.proofs.Common.{arith, refl}
use Rattle.lsm_check.proofs.OrderWalks.{out_of_order, in_order_on, all_in_order}
use Rattle.lsm_check.proofs.table.are_ordered.Goals as goal

pub returns-then-not-is_before : goal.returns-then-not-is_before
returns-then-not-is_before g c = (
  λ h. absurd cc,
  λ ordered. absurd (out_of_order c.args.entries.now c.loop-place.place c.loop-place.invariant.low c.loop-place.invariant.same c.index-entries-place.result c.index-entries-place-in-loop-place.result _ c.loop-place-test.true c.index-entries-place.is c.index-entries-place-in-loop-place.is c.is_before.ensures c.if-not-is_before.true ordered),
)

pub loop-place-preserved : goal.loop-place-preserved
loop-place-preserved g c = record {
  low = omega arith;
  same = in_order_on c.args.entries.now c.loop-place.place c.loop-place.invariant.low c.loop-place.invariant.same c.index-entries-place.result c.index-entries-place-in-loop-place.result _ c.loop-place-test.true c.index-entries-place.is c.index-entries-place-in-loop-place.is c.is_before.ensures c.if-not-is_before.false;
}

pub returns : goal.returns
returns g c = (λ _. all_in_order c.args.entries.now c.loop-place.place c.loop-place.invariant.low c.loop-place.invariant.same c.loop-place-test.false, λ _. refl)
