use Rattle.std.proofs.Common.{◌≤◌, ◌+◌, ◌*◌, ◌++◌, List, length, take, true, IsTrue}
use Rattle.std.specs.List.{AllByRecursion}
use Rattle.lsm_device.specs.Disk.{seen}
use Rattle.lsm_device.specs.Medium.{disk}
use Rattle.lsm_levels.specs.Levels.{all_tables}
use Rattle.lsm_levels.specs.Tables.{Table}
use Rattle.lsm_open.specs.ReadParts.{ReadsAtMost}
use Rattle.lsm_check.specs.Sound.{IsTold, AreSeen}
use Rattle.lsm_check.specs.Counted.{data_blocks_in, ReadsBetween}
use Rattle.lsm_check.proofs.levels.check_runs.Given as goal

abbrev pub invariant-loop-run : goal.invariant-loop-run
invariant-loop-run g l =
    let D = g.D.Device in
    let old = D.medium l.fn.device in
    record {
      device : ReadsAtMost (512 * length (all_tables (take l.run-index l.runs))) true old (D.medium l.device);
      whole : ReadsBetween (8 * data_blocks_in (all_tables (take l.run-index l.runs))) (512 * length (all_tables (take l.run-index l.runs))) old.calls (D.medium l.device).calls;
      few : l.so_far.entries ≤ l.fn.so_far.entries + 3200 * length (all_tables (take l.run-index l.runs));
      sound : (done : List Table) → IsTrue old.lasting.tells → AllByRecursion (IsTold (seen (disk old)) l.area) (all_tables l.runs) → AreSeen (seen (disk old)) l.area l.base done l.fn.so_far
          → AreSeen (seen (disk old)) l.area l.base (done ++ all_tables (take l.run-index l.runs)) l.so_far;
    }
