use Rattle.std.proofs.Common.{◌≡◌, ◌+◌, ◌*◌, min, IsTrue}
use Rattle.lsm_device.specs.Calls.{after_writes}
use Rattle.lsm_device.specs.Runs.{run_at}
use Rattle.lsm_device.proofs.Runs.{Reached}
use Rattle.lsm_log.specs.Batches.{batch_sectors}
use Rattle.lsm_log.proofs.log.Log.write_runs.Given as goal

abbrev pub invariant-loop-turn : goal.invariant-loop-turn
invariant-loop-turn g l =
    let D = g.D.Device in
    record {
      same_size : (D.medium l.device).size ≡ (D.medium l.fn.device).size;
      same_lasting : (D.medium l.device).lasting ≡ (D.medium l.fn.device).lasting;
      counted : (D.medium l.device).calls ≡ after_writes (min l.parts (16 * l.turn)) (D.medium l.fn.device).calls;
      reached : IsTrue (D.medium l.fn.device).lasting.tells → Reached (D.medium l.fn.device).history (D.medium l.device).history (run_at (l.self.start + l.self.used) (batch_sectors l.self.epoch l.self.next l.batch)) (min l.parts (16 * l.turn));
    }
