use Rattle.std.proofs.Common.{arith}
use Rattle.lsm_extent.proofs.Walking.{at_next, ends_within}
use Rattle.lsm_extent.proofs.GapWalks.{starts_here, starts_last, starts_within}
use Rattle.lsm_extent.proofs.room.starts_among.Goals as goal

pub overflow_add-starts : goal.overflow_add-starts
overflow_add-starts c =
    omega (arith, c.loop-extent.invariant.counted, c.starts_in-starts.ensures, starts_here c.args.held.now c.args.area c.loop-extent.from c.args.blocks c.loop-extent.extent-index (record { first = 0; blocks = 0 }) c.loop-extent-test.true, starts_within 0 c.args.area c.args.blocks c.args.held.now c.requires.laid)

pub overflow_add-from : goal.overflow_add-from
overflow_add-from c = omega (arith, ends_within c.args.held.now c.args.area c.loop-extent.extent-index c.loop-extent.from (record { first = 0; blocks = 0 }) c.loop-extent.invariant.at c.loop-extent-test.true)

pub loop-extent-preserved : goal.loop-extent-preserved
loop-extent-preserved c = record {
  at = at_next c.args.held.now c.args.area c.loop-extent.extent-index c.loop-extent.from (record { first = 0; blocks = 0 }) c.loop-extent.invariant.at c.loop-extent-test.true;
  counted = omega (arith, c.loop-extent.invariant.counted, c.starts_in-starts.ensures, starts_here c.args.held.now c.args.area c.loop-extent.from c.args.blocks c.loop-extent.extent-index (record { first = 0; blocks = 0 }) c.loop-extent-test.true);
}

pub overflow_add-result : goal.overflow_add-result
overflow_add-result c =
    omega (arith, c.loop-extent.invariant.counted, c.starts_in.ensures, starts_last c.args.held.now c.args.area c.loop-extent.from c.args.blocks c.loop-extent.extent-index c.loop-extent-test.false, starts_within 0 c.args.area c.args.blocks c.args.held.now c.requires.laid)

pub returns-clause-value : goal.returns-clause-value
returns-clause-value c =
    omega (arith, c.loop-extent.invariant.counted, c.starts_in.ensures, starts_last c.args.held.now c.args.area c.loop-extent.from c.args.blocks c.loop-extent.extent-index c.loop-extent-test.false)

pub returns-clause-bound : goal.returns-clause-bound
returns-clause-bound c =
    omega (arith, c.loop-extent.invariant.counted, c.starts_in.ensures, starts_last c.args.held.now c.args.area c.loop-extent.from c.args.blocks c.loop-extent.extent-index c.loop-extent-test.false, starts_within 0 c.args.area c.args.blocks c.args.held.now c.requires.laid)
