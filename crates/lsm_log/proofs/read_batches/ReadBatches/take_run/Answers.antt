use Rattle.std.proofs.Common.{◌/◌, ◌∙◌, length, arith, refl, subst, Bool}
use Rattle.lsm_device.specs.Runs.{pieces}
use Rattle.lsm_device.proofs.Pieces.{piece_at, length-pieces}
use Rattle.lsm_log.specs.ReadSoFar.{HasTaken}
use Rattle.lsm_log.proofs.Taken.{takes_none, takes_one_more, takes_no_more, takes_all}
use Rattle.lsm_log.proofs.read_batches.ReadBatches.take_run.Goals as goal

pub loop-i-init : goal.loop-i-init
loop-i-init g c = record { same_first = refl; so_far = takes_none (pieces (length c.args.bytes.now / 512) c.args.bytes.now) c.args.self.now }

pub loop-i-preserved : goal.loop-i-preserved
loop-i-preserved g c =
    let n = length c.args.bytes.now / 512 in
    let inv = c.loop-i.invariant in
    let here = piece_at n c.args.bytes.now c.loop-i.i _ c.loop-i-test.true c.piece.ensures in
    record {
      same_first = c.take.ensures.same_first ∙ inv.same_first;
      so_far = takes_one_more (pieces n c.args.bytes.now) _ c.loop-i.i here.0 here.1 c.args.self.now c.loop-i.self c.take.new.self inv.so_far
          (subst (λ (b : Bool). HasTaken b c.piece.result c.loop-i.self c.take.new.self) c.if-not-branch.false c.in_ok-take.ensures.taken);
    }

pub returns-then-not-branch-clause-taken : goal.returns-then-not-branch-clause-taken
returns-then-not-branch-clause-taken g c =
    let n = length c.args.bytes.now / 512 in
    let inv = c.loop-i.invariant in
    let here = piece_at n c.args.bytes.now c.loop-i.i _ c.loop-i-test.true c.piece.ensures in
    takes_no_more (pieces n c.args.bytes.now) _ c.loop-i.i here.0 here.1 c.args.self.now c.loop-i.self c.take.new.self inv.so_far
    (subst (λ (b : Bool). HasTaken b c.piece.result c.loop-i.self c.take.new.self) c.if-not-branch.true c.in_ok-take.ensures.taken)

pub returns-clause-taken : goal.returns-clause-taken
returns-clause-taken g c =
    let n = length c.args.bytes.now / 512 in
    takes_all (pieces n c.args.bytes.now) c.loop-i.i c.args.self.now c.loop-i.self (omega (arith, c.loop-i-test.false, length-pieces n c.args.bytes.now)) c.loop-i.invariant.so_far
