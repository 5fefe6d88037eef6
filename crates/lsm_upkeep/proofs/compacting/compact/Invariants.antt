use Rattle.std.proofs.Common.{◌≡◌, ◌⊎◌}
use Rattle.lsm_upkeep.specs.Flushing.{FlushesFirst}
use Rattle.lsm_upkeep.specs.Steps.{IsUpkept}
use Rattle.lsm_upkeep.proofs.compacting.compact.Given as goal

abbrev pub invariant-loop : goal.invariant-loop
invariant-loop g l = IsUpkept l.fn.store l.store × (((l.counter ≡ 0) × (l.store ≡ l.fn.store)) ⊎ FlushesFirst l.fn.store l.store)
