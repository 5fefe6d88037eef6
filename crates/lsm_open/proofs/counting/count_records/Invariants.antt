use Rattle.std.proofs.Common.{◌≡◌, ◌++◌, IsTrue, true, List, take, drop, map, All, Some}
use Rattle.lsm_codec.specs.Reading.{◌>>=◌}
use Rattle.lsm_codec.specs.TableRecords.{HasSizes, IsOfVersion}
use Rattle.lsm_codec.specs.declared.superblock.FormatVersion.TheVariants.{Two}
use Rattle.lsm_codec.specs.declared.table_record.TableRecord.{TableRecord}
use Rattle.lsm_device.specs.Disk.{seen}
use Rattle.lsm_device.specs.Medium.{disk}
use Rattle.lsm_open.specs.Counting.{counted_records, all_uncounted, without_deletes}
use Rattle.lsm_open.specs.ToldTables.{ReadsBlocks}
use Rattle.lsm_open.proofs.counting.count_records.Given as goal

abbrev pub invariant-loop-table : goal.invariant-loop-table
invariant-loop-table g l =
    let D = g.D.Device in
    let sectors = seen (disk (D.medium l.fn.device)) in
    record {
      same_size : (D.medium l.device).size ≡ (D.medium l.fn.device).size;
      device : ReadsBlocks (all_uncounted (take l.table-index l.listed)) true (D.medium l.fn.device) (D.medium l.device);
      same : map without_deletes l.records.items ≡ map without_deletes (take l.table-index l.listed);
      sized : All HasSizes l.records.items;
      version : All (IsOfVersion Two) l.records.items;
      told : IsTrue ((D.medium l.fn.device).lasting.tells) → counted_records l.log_sectors sectors l.listed ≡ (counted_records l.log_sectors sectors (drop l.table-index l.listed) >>= λ (more : List TableRecord). Some (l.records.items ++ more));
    }
