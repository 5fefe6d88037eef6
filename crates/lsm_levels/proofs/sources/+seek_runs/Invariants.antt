use Rattle.std.proofs.Common.{length}
use Rattle.lsm_levels.proofs.sources.+seek_runs.Given as goal

abbrev pub decreases-seek_runs : goal.decreases-seek_runs
decreases-seek_runs g l = length l.runs.now
