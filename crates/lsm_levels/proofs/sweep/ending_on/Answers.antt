use Rattle.std.proofs.Common.{sym, ◌∙◌}
use Rattle.lsm_levels.proofs.Sweeping.{all_left, one_passed}
use Rattle.lsm_levels.proofs.sweep.ending_on.Goals as goal

pub returns-then-not-ends_before : goal.returns-then-not-ends_before
returns-then-not-ends_before g c =
    all_left c.args.key.now c.args.run.now c.loop-i.i c.index-run-i.result c.requires c.loop-i-test.true c.index-run-i.is (sym c.ends_before.ensures ∙ c.if-not-ends_before.true) c.loop-i.invariant

pub loop-i-preserved : goal.loop-i-preserved
loop-i-preserved g c =
    one_passed c.args.key.now c.args.run.now c.loop-i.i c.index-run-i.result c.loop-i-test.true c.index-run-i.is (sym c.ends_before.ensures ∙ c.if-not-ends_before.false) c.loop-i.invariant
