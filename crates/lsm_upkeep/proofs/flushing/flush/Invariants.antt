use Rattle.std.proofs.Common.{◌<◌}
use Rattle.lsm_upkeep.specs.Flushing.{TriesNext}
use Rattle.lsm_upkeep.specs.Steps.{IsUpkept}
use Rattle.lsm_upkeep.proofs.flushing.flush.Given as goal

abbrev pub invariant-loop : goal.invariant-loop
invariant-loop g l = IsUpkept l.fn.store l.store × (0 < l.counter → TriesNext l.fn.store l.store)
