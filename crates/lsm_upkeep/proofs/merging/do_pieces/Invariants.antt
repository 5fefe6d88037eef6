use Rattle.lsm_upkeep.specs.Steps.{IsUpkept}
use Rattle.lsm_upkeep.proofs.merging.do_pieces.Given as goal

abbrev pub invariant-loop : goal.invariant-loop
invariant-loop g l = IsUpkept l.fn.store l.store
