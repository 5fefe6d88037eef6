use Rattle.std.proofs.Common.{◌≡◌, ◌≤◌, ◌*◌, length, take}
use Rattle.std.specs.List.{flat_map}
use Rattle.lsm_codec.specs.TableRecords.{table_record}
use Rattle.lsm_codec.proofs.table_record.texts_len.Given as goal

abbrev pub invariant-loop-table : goal.invariant-loop-table
invariant-loop-table l = record {
  so_far : l.len ≡ length (flat_map table_record (take l.table-index l.tables));
  few : l.len ≤ 20 * l.table-index;
}
