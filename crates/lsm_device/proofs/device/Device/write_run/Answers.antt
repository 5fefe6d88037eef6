use Rattle.std.proofs.Common.{◌+◌, ◌/◌, ◌∙◌, length, refl, arith}
use Rattle.lsm_device.specs.Runs.{pieces}
use Rattle.lsm_device.proofs.Pieces.{piece_at, length-pieces}
use Rattle.lsm_device.proofs.RunCounts.{one_more_write, all_writes}
use Rattle.lsm_device.proofs.Runs.{reached_none, run_more, run_fault, run_whole}
use Rattle.lsm_device.proofs.device.Device.write_run.Goals as goal

pub loop-i-init : goal.loop-i-init
loop-i-init g c = record { same_size = refl; same_lasting = refl; counted = refl; reached = λ t. reached_none _ _ }

pub returns-in_err-write-clause-moments : goal.returns-in_err-write-clause-moments
returns-in_err-write-clause-moments g c = λ t.
    let inv = c.loop-i.invariant in
    let here = piece_at (length c.args.bytes.now / 512) c.args.bytes.now c.loop-i.i _ c.loop-i-test.true c.piece-sector.ensures in
    run_fault _ _ _ c.args.at (c.args.at + c.loop-i.i) (pieces (length c.args.bytes.now / 512) c.args.bytes.now) c.loop-i.i _ refl here.0 here.1 (inv.reached t) (c.in_err-write.ensures.may_pend (rw inv.same_lasting t))

pub loop-i-preserved : goal.loop-i-preserved
loop-i-preserved g c =
    let inv = c.loop-i.invariant in
    let here = piece_at (length c.args.bytes.now / 512) c.args.bytes.now c.loop-i.i _ c.loop-i-test.true c.piece-sector.ensures in
    record {
      same_size = c.write.ensures.same_size ∙ inv.same_size;
      same_lasting = c.write.ensures.same_lasting ∙ inv.same_lasting;
      counted = one_more_write c.loop-i.i _ _ _ c.in_ok-write.ensures.counted inv.counted;
      reached = λ t. run_more _ _ _ c.args.at (c.args.at + c.loop-i.i) (pieces (length c.args.bytes.now / 512) c.args.bytes.now) c.loop-i.i _ refl here.0 here.1 (inv.reached t) (c.in_ok-write.ensures.pends (rw inv.same_lasting t));
    }

pub returns-clause-moments : goal.returns-clause-moments
returns-clause-moments g c = λ t. (c.loop-i.invariant.reached t).moments

pub returns-clause-pends : goal.returns-clause-pends
returns-clause-pends g c = λ t.
    run_whole _ _ c.args.at (pieces (length c.args.bytes.now / 512) c.args.bytes.now) c.loop-i.i (omega (arith, c.loop-i-test.false, length-pieces (length c.args.bytes.now / 512) c.args.bytes.now)) (c.loop-i.invariant.reached t)

pub returns-clause-counted : goal.returns-clause-counted
returns-clause-counted g c = all_writes c.loop-i.i _ _ _ c.loop-i-test.false c.loop-i.auto.i-end c.loop-i.invariant.counted
