use Rattle.std.proofs.Common.{◌≡◌}
use Rattle.lsm_storm.proofs.client.commit_all.Given as goal

abbrev pub invariant-loop-number : goal.invariant-loop-number
invariant-loop-number g l = l.me.number ≡ l.fn.me.number
