use Rattle.std.proofs.Common.{◌≡◌, ◌-◌, ◌++◌, length, true}
use Rattle.lsm_device.specs.Disk.{seen}
use Rattle.lsm_device.specs.Medium.{disk}
use Rattle.lsm_open.specs.ToldTables.{AreRunsRead, beside_data_from, ReadsBlocks}
use Rattle.lsm_open.proofs.tables.read_newer.Given as goal

abbrev pub invariant-loop-done : goal.invariant-loop-done
invariant-loop-done g l =
    let D = g.D.Device in
    let old = D.medium l.fn.device in
    let m = l.manifest in
    record {
      same_size : (D.medium l.device).size ≡ old.size;
      device : ReadsBlocks (beside_data_from m (m.runs - l.done) - beside_data_from m m.runs) true old (D.medium l.device);
      runs_are : l.runs ≡ m.runs;
      count : length l.levels.runs ≡ l.done;
      same : l.levels.deeper ≡ l.fn.levels.deeper;
      read : AreRunsRead l.log_sectors old.lasting.tells (seen (disk old)) m (m.runs - l.done) (l.levels.runs ++ l.levels.deeper);
    }
