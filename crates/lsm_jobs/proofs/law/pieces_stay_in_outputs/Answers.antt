use Rattle.lsm_jobs.proofs.TableWrites.{pieces_law}
use Rattle.lsm_jobs.proofs.law.pieces_stay_in_outputs.Goals as goal

pub returns : goal.returns
returns c = pieces_law
