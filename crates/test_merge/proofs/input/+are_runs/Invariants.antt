use Rattle.std.proofs.Common.{length}
use Rattle.test_merge.proofs.input.+are_runs.Given as goal

abbrev pub decreases-are_runs : goal.decreases-are_runs
decreases-are_runs g l = length l.runs.now
