use Rattle.lsm_jobs.proofs.GoingOn.{comes_after_last}
use Rattle.lsm_jobs.proofs.blocks.comes_after.Goals as goal

pub returns-in-Some : goal.returns-in-Some
returns-in-Some g c = comes_after_last c.args.run.now c.in-Some.last.now c.args.entry.now c.is_before.result c.in-Some.ensures.value c.requires c.is_before.ensures
