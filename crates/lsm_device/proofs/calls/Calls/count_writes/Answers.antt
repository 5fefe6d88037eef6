use Rattle.lsm_device.proofs.RunCounts.{one_more_write, all_writes}
use Rattle.lsm_device.proofs.calls.Calls.count_writes.Goals as goal

pub loop-done-preserved : goal.loop-done-preserved
loop-done-preserved c = one_more_write c.loop-done.done _ _ _ c.count_write.ensures c.loop-done.invariant

pub returns : goal.returns
returns c = all_writes c.loop-done.done _ _ _ c.loop-done-test.false c.loop-done.auto.done-end c.loop-done.invariant
