use Rattle.std.proofs.Common.{◌≡◌, length}
use Rattle.lsm_mem.proofs.OrderTests.{is_in_order}
use Rattle.test_merge.proofs.input.is_in_order.Given as goal

abbrev pub invariant-loop-first : goal.invariant-loop-first
invariant-loop-first g l = is_in_order l.rest ≡ is_in_order l.initial.rest

abbrev pub decreases-loop-first : goal.decreases-loop-first
decreases-loop-first g l = length l.rest
