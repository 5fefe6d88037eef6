use Rattle.std.proofs.Common.{[]}
use Rattle.lsm_lives.proofs.Steps.{replayed}
use Rattle.lsm_lives.proofs.law.what_is_asked_is_replayed.Goals as goal

pub returns : goal.returns
returns c = replayed []
