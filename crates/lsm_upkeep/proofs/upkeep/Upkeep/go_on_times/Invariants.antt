use Rattle.lsm_upkeep.specs.Steps.{IsUpkept}
use Rattle.lsm_upkeep.proofs.upkeep.Upkeep.go_on_times.Given as goal

abbrev pub invariant-loop : goal.invariant-loop
invariant-loop g l = IsUpkept l.fn.store l.store
