use Rattle.lsm_serve.proofs.AskingLaws.{asks_no_text, asks_text, sayable}
use Rattle.lsm_serve.proofs.command.read_command.Goals as goal

pub returns-in-Ok-clause-asks : goal.returns-in-Ok-clause-asks
returns-in-Ok-clause-asks c = asks_text c.args.line.now c.part_line.result.1.now _ _ c.if-line-gt-MOST_BYTES.false c.part_line.ensures.rest c.in-Ok.ensures.cases.1 c.in-Ok.ensures.cases.0 c.read_text.ensures.asks

pub returns-in_ok-mistake-in-Err-clause-asks : goal.returns-in_ok-mistake-in-Err-clause-asks
returns-in_ok-mistake-in-Err-clause-asks c = asks_no_text c.args.line.now c.part_line.result.1.now c.if-line-gt-MOST_BYTES.false c.part_line.ensures.rest c.in-Err.ensures.cases.0

pub returns-in_ok-mistake-in-Err-clause-askable : goal.returns-in_ok-mistake-in-Err-clause-askable
returns-in_ok-mistake-in-Err-clause-askable c = sayable c.in_ok-mistake-in-Err.mistake c.in_ok-mistake-in-Err.ensures
