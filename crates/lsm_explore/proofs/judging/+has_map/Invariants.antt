use Rattle.std.proofs.Common.{length}
use Rattle.lsm_explore.proofs.judging.+has_map.Given as goal

abbrev pub decreases-has_map : goal.decreases-has_map
decreases-has_map g l = length l.rows.now
