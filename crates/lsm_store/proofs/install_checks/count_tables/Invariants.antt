use Rattle.std.proofs.Common.{◌≡◌, ◌+◌, length, drop}
use Rattle.lsm_levels.specs.Levels.{all_tables}
use Rattle.lsm_store.proofs.install_checks.count_tables.Given as goal

abbrev pub invariant-loop-run : goal.invariant-loop-run
invariant-loop-run g l = l.count + length (all_tables (drop l.run-index l.runs)) ≡ length (all_tables l.runs)
