use Rattle.std.proofs.Common.{◌≡◌, ◌++◌, drop, filter}
use Rattle.lsm_extent.specs.Gaps.{gaps}
use Rattle.lsm_room.specs.Gaps.{has_blocks}
use Rattle.lsm_room.proofs.gaps.gaps_of.Given as goal

abbrev pub invariant-loop-place : goal.invariant-loop-place
invariant-loop-place g l = l.found.items ++ filter (has_blocks 1) (drop l.place (gaps l.extents)) ≡ filter (has_blocks 1) (gaps l.extents)
