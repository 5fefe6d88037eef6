use Rattle.lsm_upkeep.specs.Upkeep.{AreDone}
use Rattle.lsm_upkeep.proofs.settling.finish_jobs.Given as goal

abbrev pub invariant-loop : goal.invariant-loop
invariant-loop g l = AreDone l.counter l.fn.store l.store
