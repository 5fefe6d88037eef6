use Rattle.std.proofs.Common.{length}
use Rattle.corwaphi.proofs.prefix.+behind_prefix.Given as goal

abbrev pub decreases-behind_prefix : goal.decreases-behind_prefix
decreases-behind_prefix l = length l.prefix.now
