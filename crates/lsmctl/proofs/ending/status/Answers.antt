use Rattle.std.proofs.Common.{rules}
use Rattle.lsmctl.proofs.ending.status.Goals as goal

pub returns-then-is_err : goal.returns-then-is_err
returns-then-is_err c = search rules

pub returns-in-Err-Refused : goal.returns-in-Err-Refused
returns-in-Err-Refused c = search rules

pub returns-in-Err-Usage : goal.returns-in-Err-Usage
returns-in-Err-Usage c = search rules
