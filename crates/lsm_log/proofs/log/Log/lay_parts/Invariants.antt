use Rattle.std.proofs.Common.{◌≡◌, take, drop, length}
use Rattle.lsm_device.specs.Runs.{pieces}
use Rattle.lsm_log.specs.Batches.{batch_sectors}
use Rattle.lsm_log.proofs.log.Log.lay_parts.Given as goal

abbrev pub invariant-loop-i : goal.invariant-loop-i
invariant-loop-i g l =
    record {
      whole : length l.run ≡ 8192;
      laid : pieces l.i l.run ≡ take l.i (drop l.from (batch_sectors l.self.epoch l.self.next l.batch));
    }
