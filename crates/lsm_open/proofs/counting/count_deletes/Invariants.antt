use Rattle.std.proofs.Common.{◌≡◌, ◌+◌, ◌*◌, ◌≤◌, IsTrue, true}
use Rattle.lsm_device.specs.Disk.{seen}
use Rattle.lsm_device.specs.Medium.{disk}
use Rattle.lsm_open.specs.ToldTables.{ReadsBlocks}
use Rattle.lsm_open.proofs.CountedReads.{nothing, goes_on, blocks_left}
use Rattle.lsm_table.specs.Stored.{table_of}
use Rattle.lsm_open.proofs.counting.count_deletes.Given as goal

abbrev pub invariant-loop-i : goal.invariant-loop-i
invariant-loop-i g l =
    let D = g.D.Device in
    let sectors = seen (disk (D.medium l.fn.device)) in
    let blocks = l.listed.data_blocks in
    let at = l.area + 8 * l.listed.first_block in
    record {
      same_size : (D.medium l.device).size ≡ (D.medium l.fn.device).size;
      device : ReadsBlocks l.i true (D.medium l.fn.device) (D.medium l.device);
      few : l.count.entries ≤ 4097 * l.i;
      among : l.count.deletes ≤ l.count.entries;
      told : IsTrue ((D.medium l.fn.device).lasting.tells) → goes_on nothing (table_of (blocks_left sectors at blocks 0)) ≡ goes_on l.count (table_of (blocks_left sectors at blocks l.i));
    }
