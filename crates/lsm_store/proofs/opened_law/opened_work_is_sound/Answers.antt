use Rattle.lsm_store.proofs.OpenedWorks.{opened_law}
use Rattle.lsm_store.proofs.opened_law.opened_work_is_sound.Goals as goal

pub returns : goal.returns
returns c = opened_law
