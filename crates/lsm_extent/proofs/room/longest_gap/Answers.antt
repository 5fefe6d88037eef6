use Rattle.std.proofs.Common.{arith}
use Rattle.lsm_extent.proofs.Walking.{at_next, ends_within}
use Rattle.lsm_extent.proofs.GapWalks.{longest_here, longest_last}
use Rattle.lsm_extent.proofs.room.longest_gap.Goals as goal

pub overflow_add-from : goal.overflow_add-from
overflow_add-from c = omega (arith, ends_within c.args.held.now c.args.area c.loop-extent.extent-index c.loop-extent.from (record { first = 0; blocks = 0 }) c.loop-extent.invariant.at c.loop-extent-test.true)

pub loop-extent-preserved : goal.loop-extent-preserved
loop-extent-preserved c = record {
  at = at_next c.args.held.now c.args.area c.loop-extent.extent-index c.loop-extent.from (record { first = 0; blocks = 0 }) c.loop-extent.invariant.at c.loop-extent-test.true;
  longest = longest_here c.args.held.now c.args.area c.loop-extent.extent-index c.loop-extent.from c.loop-extent.longest _ (record { first = 0; blocks = 0 }) c.loop-extent.invariant.at c.loop-extent-test.true c.loop-extent.invariant.longest c.max-longest.ensures;
}

pub returns : goal.returns
returns c = longest_last c.args.held.now c.args.area c.loop-extent.extent-index c.loop-extent.from c.loop-extent.longest _ c.loop-extent.invariant.at (omega arith) c.loop-extent.invariant.longest c.max.ensures
