use Rattle.std.proofs.Common.{◌≡◌, ◌++◌, drop}
use Rattle.lsm_levels.specs.Levels.{all_tables}
use Rattle.lsm_jobs.proofs.taking.run_handles.Given as goal

abbrev pub invariant-loop-run : goal.invariant-loop-run
invariant-loop-run g l = l.handles.items ++ all_tables (drop l.run-index l.runs) ≡ all_tables l.runs
