use Rattle.std.proofs.Common.{◌≤◌, ◌+◌, ◌*◌, ◌++◌, List, take, true, IsTrue}
use Rattle.std.specs.List.{AllByRecursion}
use Rattle.lsm_device.specs.Disk.{seen}
use Rattle.lsm_device.specs.Medium.{disk}
use Rattle.lsm_levels.specs.Tables.{Table}
use Rattle.lsm_open.specs.ReadParts.{ReadsAtMost}
use Rattle.lsm_check.specs.Sound.{IsTold, AreSeen}
use Rattle.lsm_check.specs.Counted.{data_blocks_in, ReadsBetween}
use Rattle.lsm_check.proofs.levels.check_run.Given as goal

abbrev pub invariant-loop-table : goal.invariant-loop-table
invariant-loop-table g l =
    let D = g.D.Device in
    let old = D.medium l.fn.device in
    record {
      device : ReadsAtMost (512 * l.table-index) true old (D.medium l.device);
      whole : ReadsBetween (8 * data_blocks_in (take l.table-index l.run)) (512 * l.table-index) old.calls (D.medium l.device).calls;
      few : l.so_far.entries ≤ l.fn.so_far.entries + 3200 * l.table-index;
      sound : (done : List Table) → IsTrue old.lasting.tells → AllByRecursion (IsTold (seen (disk old)) l.area) l.run → AreSeen (seen (disk old)) l.area l.base done l.fn.so_far
          → AreSeen (seen (disk old)) l.area l.base (done ++ take l.table-index l.run) l.so_far;
    }
