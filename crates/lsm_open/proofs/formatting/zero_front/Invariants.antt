use Rattle.std.proofs.Common.{◌≡◌, ◌*◌, min, IsTrue, replicate}
use Rattle.lsm_codec.specs.Formats.{blank}
use Rattle.lsm_device.specs.Calls.{AtMost}
use Rattle.lsm_device.specs.Runs.{run_at}
use Rattle.lsm_device.proofs.Runs.{Reached}
use Rattle.lsm_root.specs.Counted.{CallsMade}
use Rattle.lsm_open.proofs.formatting.zero_front.Given as goal

abbrev pub invariant-loop-turn : goal.invariant-loop-turn
invariant-loop-turn g l =
    let D = g.D.Device in
    record {
      same_size : (D.medium l.device).size ≡ (D.medium l.fn.device).size;
      same_lasting : (D.medium l.device).lasting ≡ (D.medium l.fn.device).lasting;
      no_fault : (D.medium l.device).calls.faults ≡ (D.medium l.fn.device).calls.faults;
      counts : AtMost 0 (min l.count (128 * l.turn)) 0 (D.medium l.fn.device).calls (D.medium l.device).calls;
      made : CallsMade (min l.count (128 * l.turn)) 0 (D.medium l.fn.device).calls (D.medium l.device).calls;
      reached : IsTrue (D.medium l.fn.device).lasting.tells → Reached (D.medium l.fn.device).history (D.medium l.device).history (run_at 0 (replicate l.count blank)) (min l.count (128 * l.turn));
    }
