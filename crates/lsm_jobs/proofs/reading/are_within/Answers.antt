use Rattle.lsm_jobs.proofs.ReadJobs.{all_within}
use Rattle.lsm_jobs.proofs.reading.are_within.Goals as goal

pub returns : goal.returns
returns g c = all_within c.args.sectors c.args.area c.args.tables.now c.all_within.result c.all_within.ensures
