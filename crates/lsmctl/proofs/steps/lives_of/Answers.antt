use Rattle.std.proofs.Common.{rules}
use Rattle.lsmctl.proofs.steps.lives_of.Goals as goal

pub loop-line-preserved-in-Fuse : goal.loop-line-preserved-in-Fuse
loop-line-preserved-in-Fuse c = search rules
