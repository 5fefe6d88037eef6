use Rattle.std.proofs.Common.{◌≡◌, take, filter}
use Rattle.lsm_open.specs.ToldTables.{is_in_run}
use Rattle.lsm_open.proofs.tables.run_records.Given as goal

abbrev pub invariant-loop-table : goal.invariant-loop-table
invariant-loop-table g l = record {
  all : l.tables ≡ l.manifest.tables;
  runs : l.runs ≡ l.manifest.runs;
  listed : l.listed.items ≡ filter (is_in_run l.runs l.place) (take l.table-index l.tables);
}
