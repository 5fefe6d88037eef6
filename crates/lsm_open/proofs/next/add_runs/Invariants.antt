use Rattle.std.proofs.Common.{◌≡◌, ◌++◌, drop}
use Rattle.lsm_open.specs.ToldTables.{records_of_runs}
use Rattle.lsm_open.proofs.next.add_runs.Given as goal

abbrev pub invariant-loop-run : goal.invariant-loop-run
invariant-loop-run g l = l.records.items ++ records_of_runs l.run (drop l.run l.runs) ≡ l.fn.records.items ++ records_of_runs 0 l.runs
