use Rattle.std.proofs.Common.{rules}
use Rattle.lsm_language.proofs.request.delete_in.Goals as goal

pub returns-in_err-batch : goal.returns-in_err-batch
returns-in_err-batch c = search rules

pub returns : goal.returns
returns c = search rules
