use Rattle.lsm_levels.proofs.PickLaws.{pick_law}
use Rattle.lsm_levels.proofs.law.picked_jobs_have_free_tables.Goals as goal

pub returns : goal.returns
returns c = pick_law
