use Rattle.std.proofs.Common.{◌≡◌, IsTrue}
use Rattle.lsm_device.specs.Calls.{after_writes}
use Rattle.lsm_device.specs.Runs.{run_at, pieces}
use Rattle.lsm_device.proofs.Runs.{Reached}
use Rattle.lsm_device.proofs.device.Device.write_run.Given as goal

abbrev pub invariant-loop-i : goal.invariant-loop-i
invariant-loop-i g l =
    let medium = g.Self.Device.medium in
    record {
      same_size : (medium l.self).size ≡ (medium l.fn.self).size;
      same_lasting : (medium l.self).lasting ≡ (medium l.fn.self).lasting;
      counted : (medium l.self).calls ≡ after_writes l.i (medium l.fn.self).calls;
      reached : IsTrue (medium l.fn.self).lasting.tells → Reached (medium l.fn.self).history (medium l.self).history (run_at l.at (pieces l.count l.bytes)) l.i;
    }
