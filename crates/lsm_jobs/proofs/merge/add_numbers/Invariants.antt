use Rattle.std.proofs.Common.{◌++◌, List, take}
use Rattle.lsm_levels.specs.Tables.{Table}
use Rattle.lsm_jobs.specs.Numbers.{AreNumbersOf}
use Rattle.lsm_jobs.proofs.merge.add_numbers.Given as goal

abbrev pub invariant-loop-table : goal.invariant-loop-table
invariant-loop-table g l = (others : List Table) → AreNumbersOf l.fn.numbers others → AreNumbersOf l.numbers (others ++ take l.table-index l.tables)
