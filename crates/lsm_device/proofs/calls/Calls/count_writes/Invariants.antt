use Rattle.std.proofs.Common.{◌≡◌}
use Rattle.lsm_device.specs.Calls.{after_writes}
use Rattle.lsm_device.proofs.calls.Calls.count_writes.Given as goal

abbrev pub invariant-loop-done : goal.invariant-loop-done
invariant-loop-done l = l.self ≡ after_writes l.done l.fn.self
