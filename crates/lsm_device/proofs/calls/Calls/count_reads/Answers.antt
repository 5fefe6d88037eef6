use Rattle.lsm_device.proofs.RunCounts.{one_more_read, all_reads}
use Rattle.lsm_device.proofs.calls.Calls.count_reads.Goals as goal

pub loop-done-preserved : goal.loop-done-preserved
loop-done-preserved c = one_more_read c.loop-done.done _ _ _ c.count_read.ensures c.loop-done.invariant

pub returns : goal.returns
returns c = all_reads c.loop-done.done _ _ _ c.loop-done-test.false c.loop-done.auto.done-end c.loop-done.invariant
