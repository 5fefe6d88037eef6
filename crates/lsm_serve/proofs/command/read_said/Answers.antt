use Rattle.lsm_serve.proofs.AskingLaws.{sayable}
use Rattle.lsm_serve.proofs.command.read_said.Goals as goal

pub returns-in_ok-mistake-in-Err-Malformed-clause-askable : goal.returns-in_ok-mistake-in-Err-Malformed-clause-askable
returns-in_ok-mistake-in-Err-Malformed-clause-askable c = sayable c.in_ok-mistake-in-Err-Malformed.mistake c.in_ok-mistake-in-Err-Malformed.ensures
