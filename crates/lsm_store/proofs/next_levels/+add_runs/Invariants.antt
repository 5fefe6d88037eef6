use Rattle.std.proofs.Common.{length}
use Rattle.lsm_store.proofs.next_levels.+add_runs.Given as goal

abbrev pub decreases-add_runs : goal.decreases-add_runs
decreases-add_runs g l = length l.runs.now
