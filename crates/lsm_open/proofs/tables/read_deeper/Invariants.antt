use Rattle.std.proofs.Common.{◌≡◌, ◌+◌, ◌-◌, [], length, drop, true}
use Rattle.lsm_device.specs.Disk.{seen}
use Rattle.lsm_device.specs.Medium.{disk}
use Rattle.lsm_open.specs.ToldTables.{AreRunsRead, beside_data_from, ReadsBlocks}
use Rattle.lsm_open.proofs.tables.read_deeper.Given as goal

abbrev pub invariant-loop-done : goal.invariant-loop-done
invariant-loop-done g l =
    let D = g.D.Device in
    let old = D.medium l.fn.device in
    record {
      same_size : (D.medium l.device).size ≡ old.size;
      device : ReadsBlocks (beside_data_from l.manifest (l.manifest.runs + (4 - l.done))) true old (D.medium l.device);
      runs_are : l.runs ≡ l.manifest.runs;
      none : l.levels.runs ≡ [];
      four : length l.levels.deeper ≡ 4;
      read : AreRunsRead l.log_sectors old.lasting.tells (seen (disk old)) l.manifest (l.manifest.runs + (4 - l.done)) (drop (4 - l.done) l.levels.deeper);
    }
