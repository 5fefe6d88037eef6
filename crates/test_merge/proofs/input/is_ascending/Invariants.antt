use Rattle.std.proofs.Common.{◌≡◌, length}
use Rattle.lsm_merge.specs.Inputs.{is_ascending}
use Rattle.test_merge.proofs.input.is_ascending.Given as goal

abbrev pub invariant-loop-first : goal.invariant-loop-first
invariant-loop-first l = is_ascending l.rest ≡ is_ascending l.initial.rest

abbrev pub decreases-loop-first : goal.decreases-loop-first
decreases-loop-first l = length l.rest
