use Rattle.std.proofs.Common.{◌≡◌}
use Rattle.lsm_device.specs.Calls.{after_reads}
use Rattle.lsm_device.proofs.calls.Calls.count_reads.Given as goal

abbrev pub invariant-loop-done : goal.invariant-loop-done
invariant-loop-done l = l.self ≡ after_reads l.done l.fn.self
