use Rattle.std.proofs.Common.{◌≡◌, ◌++◌, IsTrue, true, List, take, drop, Some}
use Rattle.lsm_codec.specs.Reading.{◌>>=◌}
use Rattle.lsm_device.specs.Disk.{seen}
use Rattle.lsm_device.specs.Medium.{disk}
use Rattle.lsm_levels.specs.Tables.{Table}
use Rattle.lsm_open.specs.Tables.{versions_at}
use Rattle.lsm_open.specs.ToldTables.{told_tables, blocks_beside_data, AreNamedBy, ReadsBlocks}
use Rattle.lsm_open.proofs.tables.read_listed.Given as goal

abbrev pub invariant-loop-table : goal.invariant-loop-table
invariant-loop-table g l =
    let D = g.D.Device in
    let sectors = seen (disk (D.medium l.fn.device)) in
    record {
      same_size : (D.medium l.device).size ≡ (D.medium l.fn.device).size;
      device : ReadsBlocks (blocks_beside_data (take l.table-index l.listed)) true (D.medium l.fn.device) (D.medium l.device);
      named : AreNamedBy (take l.table-index l.listed) l.tables.items;
      told : IsTrue ((D.medium l.fn.device).lasting.tells) → told_tables l.log_sectors sectors l.listed ≡ (told_tables l.log_sectors sectors (drop l.table-index l.listed) >>= λ (more : List Table). Some (l.tables.items ++ more));
    }

abbrev pub ghost-read_table : goal.ghost-read_table
ghost-read_table g a = versions_at a.log_sectors (seen (disk (g.D.Device.medium a.device.now))) a.listed
