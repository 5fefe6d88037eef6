use Rattle.std.proofs.Common.{List, ◌++◌, drop}
use Rattle.lsm_table.specs.Division.{IsInput, TableBlocks}
use Rattle.lsm_merge.specs.Divisions.{AreTablesAt}
use Rattle.lsm_merge.proofs.dividing.divided.Given as goal

abbrev pub invariant-loop-key : goal.invariant-loop-key
invariant-loop-key g l = record {
  input : IsInput l.rest.items;
  goes_on : (tables : List TableBlocks) → AreTablesAt (drop l.key-index l.divisions) l.rest.items tables → AreTablesAt l.divisions l.fn.entries.items (l.all.items ++ tables);
}
