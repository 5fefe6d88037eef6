use Rattle.lsm_shared.specs.Workers.{MakesNoCall, TakesTurns}
use Rattle.lsm_shared.proofs.worker.work.Given as goal

abbrev pub invariant-loop : goal.invariant-loop
invariant-loop g l = MakesNoCall l.fn.me l.me × TakesTurns l.parts l.counter l.fn.me l.me
