use Rattle.std.proofs.Common.{◌≡◌, ◌-◌, ◌≤◌, IsTrue, length}
use Rattle.lsm_device.specs.Areas.{area}
use Rattle.lsm_device.specs.Calls.{AtMost}
use Rattle.lsm_device.specs.Disk.{seen}
use Rattle.lsm_device.specs.Medium.{disk}
use Rattle.lsm_log.proofs.RegionRuns.{HasRead}
use Rattle.lsm_log.proofs.read_batches.ReadBatches.read_region.Given as goal

abbrev pub invariant-loop-done : goal.invariant-loop-done
invariant-loop-done g l =
    let D = g.D.Device in
    record {
      same_size : (D.medium l.device).size ≡ (D.medium l.fn.device).size;
      same_lasting : (D.medium l.device).lasting ≡ (D.medium l.fn.device).lasting;
      no_fault : (D.medium l.device).calls.faults ≡ (D.medium l.fn.device).calls.faults;
      within : l.done ≤ l.sectors;
      calls : AtMost l.done 0 0 (D.medium l.fn.device).calls (D.medium l.device).calls;
      same_first : l.self.first ≡ l.fn.self.first;
      whole : length l.run ≡ 8192;
      unchanged : IsTrue (D.medium l.fn.device).lasting.tells → (D.medium l.device).history ≡ (D.medium l.fn.device).history;
      so_far : IsTrue (D.medium l.fn.device).lasting.tells → HasRead l.done (area l.start l.sectors (seen (disk (D.medium l.fn.device)))) l.fn.self l.self;
    }

abbrev pub decreases-loop-done : goal.decreases-loop-done
decreases-loop-done g l = l.sectors - l.done
