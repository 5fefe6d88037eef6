use Rattle.std.proofs.Common.{◌≡◌, ◌⊎◌}
use Rattle.lsm_upkeep.specs.Flushing.{FlushesFirst}
use Rattle.lsm_upkeep.specs.Steps.{IsUpkept}
use Rattle.lsm_upkeep.proofs.compacting.take_down.Given as goal

abbrev pub invariant-loop-jobs : goal.invariant-loop-jobs
invariant-loop-jobs g l = IsUpkept l.fn.store l.store × (((l.jobs ≡ 0) × (l.store ≡ l.fn.store)) ⊎ FlushesFirst l.fn.store l.store)
