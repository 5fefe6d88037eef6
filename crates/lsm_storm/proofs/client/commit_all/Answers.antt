use Rattle.std.proofs.Common.{◌∙◌}
use Rattle.lsm_storm.proofs.client.commit_all.Goals as goal

pub loop-number-preserved : goal.loop-number-preserved
loop-number-preserved g c = c.commit.ensures ∙ (c.rotate_in_the_middle.ensures ∙ c.loop-number.invariant)
