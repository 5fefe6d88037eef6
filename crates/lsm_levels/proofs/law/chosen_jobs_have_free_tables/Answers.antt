use Rattle.lsm_levels.proofs.ChoiceLaws.{choice_law}
use Rattle.lsm_levels.proofs.law.chosen_jobs_have_free_tables.Goals as goal

pub returns : goal.returns
returns c = choice_law
