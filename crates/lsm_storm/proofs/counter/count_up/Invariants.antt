use Rattle.lsm_storm.specs.Counters.{GoesOnCounting}
use Rattle.lsm_storm.proofs.counter.count_up.Given as goal

abbrev pub invariant-loop : goal.invariant-loop
invariant-loop g l = GoesOnCounting l.fn.me l.me
