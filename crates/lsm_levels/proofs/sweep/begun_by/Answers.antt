use Rattle.std.proofs.Common.{sym, ◌∙◌}
use Rattle.lsm_levels.proofs.Sweeping.{none_left_begun}
use Rattle.lsm_levels.proofs.sweep.begun_by.Goals as goal

pub returns-then-not-begins_by : goal.returns-then-not-begins_by
returns-then-not-begins_by g c =
    none_left_begun c.args.key.now c.args.run.now c.loop-i.i c.index-run-i.result c.requires c.loop-i-test.true c.index-run-i.is (sym c.begins_by.ensures ∙ c.if-not-begins_by.true) c.loop-i.invariant
