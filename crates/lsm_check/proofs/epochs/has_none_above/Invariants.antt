use Rattle.std.proofs.Common.{◌≡◌, IsTrue, true}
use Rattle.lsm_device.specs.Areas.{area}
use Rattle.lsm_device.specs.Disk.{seen}
use Rattle.lsm_device.specs.Medium.{disk}
use Rattle.lsm_log.specs.Opened.{HasNoneAbove}
use Rattle.lsm_open.specs.LogRegions.{first_region}
use Rattle.lsm_open.specs.ReadParts.{ReadsAtMost}
use Rattle.lsm_check.specs.Counted.{ReadsBetween}
use Rattle.lsm_check.proofs.epochs.has_none_above.Given as goal

abbrev pub invariant-loop-i : goal.invariant-loop-i
invariant-loop-i g l =
    let D = g.D.Device in
    record {
      same_size : (D.medium l.device).size ≡ (D.medium l.fn.device).size;
      device : ReadsAtMost l.i true (D.medium l.fn.device) (D.medium l.device);
      whole : ReadsBetween l.i l.i (D.medium l.fn.device).calls (D.medium l.device).calls;
      none : IsTrue (D.medium l.fn.device).lasting.tells → HasNoneAbove l.generation (area first_region l.i (seen (disk (D.medium l.fn.device))));
    }
