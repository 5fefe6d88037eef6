use Rattle.std.proofs.Common.{◌≡◌, ◌*◌, IsTrue, length, take, drop}
use Rattle.std.specs.List.{concat}
use Rattle.lsm_device.specs.Calls.{after_reads}
use Rattle.lsm_device.specs.Disk.{seen}
use Rattle.lsm_device.specs.Medium.{disk}
use Rattle.lsm_device.proofs.device.Device.read_run.Given as goal

abbrev pub invariant-loop-i : goal.invariant-loop-i
invariant-loop-i g l =
    let medium = g.Self.Device.medium in
    record {
      same_size : (medium l.self).size ≡ (medium l.fn.self).size;
      same_lasting : (medium l.self).lasting ≡ (medium l.fn.self).lasting;
      unchanged : IsTrue (medium l.fn.self).lasting.tells → (medium l.self).history ≡ (medium l.fn.self).history;
      counted : (medium l.self).calls ≡ after_reads l.i (medium l.fn.self).calls;
      whole : length l.out ≡ 512 * l.count;
      given : IsTrue (medium l.fn.self).lasting.tells → take (512 * l.i) l.out ≡ concat (take l.i (drop l.at (seen (disk (medium l.fn.self)))));
    }
