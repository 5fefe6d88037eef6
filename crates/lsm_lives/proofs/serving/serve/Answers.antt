use Rattle.std.proofs.Common.{rules}
use Rattle.lsm_lives.proofs.serving.serve.Goals as goal

pub returns-in-Commit : goal.returns-in-Commit
returns-in-Commit g c = search rules

pub returns-in-Sync : goal.returns-in-Sync
returns-in-Sync g c = search rules
