use Rattle.std.proofs.Common.{◌≡◌, ◌≤◌, take}
use Rattle.lsm_device.specs.Calls.{after_reads}
use Rattle.lsm_device.specs.Disk.{seen}
use Rattle.lsm_device.specs.Medium.{disk}
use Rattle.lsm_image.proofs.image.sectors_of.Given as goal

abbrev pub invariant-loop-at : goal.invariant-loop-at
invariant-loop-at g l =
    let D = g.D.Device in
    record {
      same_size : (D.medium l.device).size ≡ (D.medium l.fn.device).size;
      same_lasting : (D.medium l.device).lasting ≡ (D.medium l.fn.device).lasting;
      within : l.at ≤ (D.medium l.fn.device).size;
      counted : (D.medium l.device).calls ≡ after_reads l.at (D.medium l.fn.device).calls;
      same_history : (D.medium l.device).history ≡ (D.medium l.fn.device).history;
      so_far : l.sectors.items ≡ take l.at (seen (disk (D.medium l.fn.device)));
    }
