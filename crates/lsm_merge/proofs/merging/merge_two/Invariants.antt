use Rattle.std.proofs.Common.{◌≡◌, ◌+◌, ◌-◌, ◌≤◌, ◌++◌, length, drop}
use Rattle.lsm_codec.specs.Versions.{AreOrdered}
use Rattle.lsm_merge.specs.Keeping.{all_placed}
use Rattle.lsm_merge.specs.Loops.{shown}
use Rattle.lsm_merge.proofs.merging.merge_two.Given as goal

abbrev pub invariant-loop-i : goal.invariant-loop-i
invariant-loop-i g l = record {
  so_far : shown l.both.items ++ all_placed (shown (drop l.i l.left)) (shown (drop l.j l.right)) ≡ all_placed (shown l.left) (shown l.right);
  left_ordered : AreOrdered (shown (drop l.i l.left));
  right_ordered : AreOrdered (shown (drop l.j l.right));
  left_within : l.i ≤ length l.left;
  right_within : l.j ≤ length l.right;
}

abbrev pub decreases-loop-i : goal.decreases-loop-i
decreases-loop-i g l = (length l.left - l.i) + (length l.right - l.j)
