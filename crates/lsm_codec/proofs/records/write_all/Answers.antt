use Rattle.lsm_codec.proofs.Loops.{text_more}
use Rattle.lsm_codec.proofs.records.write_all.Goals as goal

pub loop-record-preserved : goal.loop-record-preserved
loop-record-preserved g c =
    text_more g.T.Record.spelling c.args.out.now.items c.args.records.now c.loop-record.record-index c.record-item.result c.loop-record.out.items c.write.new.out.items c.loop-record-test.true c.record-item.is c.loop-record.invariant c.in_ok-write.ensures
