use Rattle.lsm_shared.specs.Workers.{MakesNoCall}
use Rattle.example_shared.proofs.worker.work.Given as goal

abbrev pub invariant-loop : goal.invariant-loop
invariant-loop g l = MakesNoCall l.fn.me l.me
