use Rattle.std.proofs.Common.{◌≡◌, ◌*◌, ◌≤◌, take}
use Rattle.lsm_jobs.specs.Gathering.{data_blocks}
use Rattle.lsm_jobs.proofs.blocks.data_blocks.Given as goal

abbrev pub invariant-loop-table : goal.invariant-loop-table
invariant-loop-table g l = record {
  count : l.blocks ≡ data_blocks (take l.table-index l.tables);
  few : l.blocks ≤ 64 * l.table-index;
}
