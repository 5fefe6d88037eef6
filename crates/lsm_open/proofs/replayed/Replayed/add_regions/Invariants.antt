use Rattle.std.proofs.Common.{◌≡◌, ◌+◌, ◌*◌, drop, IsTrue}
use Rattle.std.specs.List.{AllByRecursion}
use Rattle.lsm_codec.specs.Versions.{IsEntry}
use Rattle.lsm_device.specs.Calls.{AtMost}
use Rattle.lsm_device.specs.Disk.{seen}
use Rattle.lsm_device.specs.Medium.{disk}
use Rattle.lsm_mem.specs.Versions.{NumberedBelow}
use Rattle.lsm_open.specs.Reopening.{HasCome, GoesOn}
use Rattle.lsm_open.proofs.replayed.Replayed.add_regions.Given as goal

abbrev pub invariant-loop-listed : goal.invariant-loop-listed
invariant-loop-listed g l =
    let D = g.D.Device in
    record {
      same_size : (D.medium l.device).size ≡ (D.medium l.fn.device).size;
      same_lasting : (D.medium l.device).lasting ≡ (D.medium l.fn.device).lasting;
      no_fault : (D.medium l.device).calls.faults ≡ (D.medium l.fn.device).calls.faults;
      calls : AtMost (l.listed-index * l.log_sectors) 0 0 (D.medium l.fn.device).calls (D.medium l.device).calls;
      unchanged : IsTrue (D.medium l.fn.device).lasting.tells → (D.medium l.device).history ≡ (D.medium l.fn.device).history;
      all : l.logs ≡ l.manifest.logs;
      come : HasCome l.manifest l.self.count l.self.closed.items (drop l.listed-index l.logs);
      numbered : NumberedBelow (l.self.count + 1) l.self.mem;
      entries : AllByRecursion IsEntry l.self.mem;
      goes_on : IsTrue (D.medium l.fn.device).lasting.tells → GoesOn l.log_sectors (seen (disk (D.medium l.fn.device))) l.manifest l.self (drop l.listed-index l.logs);
    }
