use Rattle.std.proofs.Common.{◌≡◌, drop, filter}
use Rattle.lsm_levels.specs.Tables.{at_most}
use Rattle.lsm_levels.proofs.sweep.ending_on.Given as goal

abbrev pub invariant-loop-i : goal.invariant-loop-i
invariant-loop-i g l = filter (λ t. at_most l.key t.last) (drop l.i l.run) ≡ filter (λ t. at_most l.key t.last) l.run
