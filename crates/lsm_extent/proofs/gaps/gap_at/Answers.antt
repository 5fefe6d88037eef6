use Rattle.std.proofs.Common.{sym, arith}
use Rattle.lsm_extent.proofs.GapWalks.{gap_is, gap_order, no_gap}
use Rattle.lsm_extent.proofs.gaps.gap_at.Goals as goal

pub returns-then-place-held : goal.returns-then-place-held
returns-then-place-held c = sym (no_gap 0 c.args.area c.args.place c.args.held.now c.if-place-held.true)

pub overflow_sub-blocks : goal.overflow_sub-blocks
overflow_sub-blocks c = omega (arith, c.end_before-first.ensures, c.next_from.ensures, gap_order c.args.held.now c.args.area c.args.place c.requires.laid)

pub returns : goal.returns
returns c = rw (c.end_before-first.ensures, c.next_from.ensures) (sym (gap_is 0 c.args.area c.args.place c.args.held.now c.if-place-held.false))
