use Rattle.lsm_jobs.proofs.SureRoom.{sure_room_law}
use Rattle.lsm_jobs.proofs.sure.sure_room_is_found.Goals as goal

pub returns : goal.returns
returns c = sure_room_law
