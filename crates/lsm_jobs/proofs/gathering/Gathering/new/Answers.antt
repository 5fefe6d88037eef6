use Rattle.std.proofs.Common.{sym, subst}
use Rattle.lsm_merge.specs.Inputs.{AreRuns}
use Rattle.lsm_jobs.specs.Gathering.{ascending_runs}
use Rattle.lsm_jobs.proofs.GatheredRuns.{none_ordered}
use Rattle.lsm_jobs.proofs.gathering.Gathering.new.Goals as goal

pub invariant_of-result : goal.invariant_of-result
invariant_of-result g c = (subst AreRuns (sym c.in_ok-runs.ensures) (none_ordered (ascending_runs c.args.tables.now)), c.requires)
