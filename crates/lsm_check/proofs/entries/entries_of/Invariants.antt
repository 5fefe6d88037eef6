use Rattle.std.proofs.Common.{◌≡◌, ◌*◌, IsTrue, true}
use Rattle.lsm_device.specs.Disk.{seen}
use Rattle.lsm_device.specs.Medium.{disk}
use Rattle.lsm_levels.specs.Stored.{IsStored}
use Rattle.lsm_open.specs.ReadParts.{ReadsAtMost}
use Rattle.lsm_check.specs.Sound.{AreRead}
use Rattle.lsm_check.specs.Counted.{ReadsBetween}
use Rattle.lsm_check.proofs.entries.entries_of.Given as goal

abbrev pub invariant-loop-place : goal.invariant-loop-place
invariant-loop-place g l =
    let D = g.D.Device in
    record {
      same_size : (D.medium l.device).size ≡ (D.medium l.fn.device).size;
      device : ReadsAtMost (8 * l.place) true (D.medium l.fn.device) (D.medium l.device);
      whole : ReadsBetween (8 * l.place) (8 * l.place) (D.medium l.fn.device).calls (D.medium l.device).calls;
      read : IsTrue (D.medium l.fn.device).lasting.tells → l.ends ≡ true → AreRead (seen (disk (D.medium l.fn.device))) l.area l.place l.table l.entries.items;
      stored : IsTrue (D.medium l.fn.device).lasting.tells → IsStored (seen (disk (D.medium l.fn.device))) l.area l.table → l.ends ≡ true;
    }
