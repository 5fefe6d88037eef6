use Rattle.std.proofs.Common.{sym, arith}
use Rattle.lsm_extent.proofs.GapWalks.{count_is, fewer_than_blocks}
use Rattle.lsm_extent.proofs.room.count_gaps.Goals as goal

pub overflow_add-result : goal.overflow_add-result
overflow_add-result c = omega (arith, fewer_than_blocks 0 c.args.area c.args.held.now c.requires.laid)

pub returns : goal.returns
returns c = sym (count_is 0 c.args.area c.args.held.now)
