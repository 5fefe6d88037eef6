use Rattle.std.specs.Vec.Iter.{into_iter_items}
use Rattle.lsm_table.proofs.Laying.{IsFilling}
use Rattle.lsm_table.proofs.division.next_blocks.Given as goal

abbrev pub invariant-loop-place : goal.invariant-loop-place
invariant-loop-place g l = IsFilling l.filling l._place (into_iter_items l.left) (into_iter_items l.fn.left)
