use Rattle.std.proofs.Common.{◌≡◌, ◌++◌, take, drop, filter}
use Rattle.lsm_levels.specs.Tables.{at_most}
use Rattle.lsm_levels.proofs.sweep.begun_by.Given as goal

abbrev pub invariant-loop-i : goal.invariant-loop-i
invariant-loop-i g l = filter (λ t. at_most t.first l.key) l.run ≡ take l.i l.run ++ filter (λ t. at_most t.first l.key) (drop l.i l.run)
