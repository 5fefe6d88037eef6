use Rattle.std.proofs.Common.{◌≡◌, ◌+◌, drop}
use Rattle.lsm_jobs.specs.Gathering.{run_length}
use Rattle.lsm_jobs.proofs.runs.run_length.Given as goal

abbrev pub invariant-loop-i : goal.invariant-loop-i
invariant-loop-i g l = l.i + run_length (drop l.i l.tables) ≡ run_length l.tables
