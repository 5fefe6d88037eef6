use Rattle.std.proofs.Common.{◌≡◌, drop}
use Rattle.lsm_levels.specs.Tables.{is_run}
use Rattle.lsm_levels.proofs.run.is_run.Given as goal

abbrev pub invariant-loop-i : goal.invariant-loop-i
invariant-loop-i g l = is_run (drop l.i l.tables) ≡ is_run l.tables
