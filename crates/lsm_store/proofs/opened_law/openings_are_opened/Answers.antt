use Rattle.lsm_store.proofs.OpenedMachines.{opened}
use Rattle.lsm_store.proofs.opened_law.openings_are_opened.Goals as goal

pub returns : goal.returns
returns c = λ before log_sectors left s opens reopens. opened before log_sectors left s opens reopens
