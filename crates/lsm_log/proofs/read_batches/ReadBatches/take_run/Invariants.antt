use Rattle.std.proofs.Common.{◌≡◌, ◌/◌, length, take}
use Rattle.lsm_device.specs.Runs.{pieces}
use Rattle.lsm_log.specs.ReadSoFar.{HaveTaken}
use Rattle.std.specs.Prelude.{true}
use Rattle.lsm_log.proofs.read_batches.ReadBatches.take_run.Given as goal

abbrev pub invariant-loop-i : goal.invariant-loop-i
invariant-loop-i g l =
    record {
      same_first : l.self.first ≡ l.fn.self.first;
      so_far : HaveTaken true (take l.i (pieces (length l.bytes / 512) l.bytes)) l.fn.self l.self;
    }
