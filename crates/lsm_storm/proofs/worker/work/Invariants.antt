use Rattle.std.proofs.Common.{◌≡◌}
use Rattle.lsm_storm.proofs.worker.work.Given as goal

abbrev pub invariant-loop : goal.invariant-loop
invariant-loop g l = l.me.number ≡ l.fn.me.number
