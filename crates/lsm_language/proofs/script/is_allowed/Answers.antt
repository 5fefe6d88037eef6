use Rattle.std.proofs.Common.{rules}
use Rattle.lsm_language.proofs.script.is_allowed.Goals as goal

pub returns-in-Fuse-Steps : goal.returns-in-Fuse-Steps
returns-in-Fuse-Steps c = search rules

pub returns-in-Fuse-Steps-2 : goal.returns-in-Fuse-Steps-2
returns-in-Fuse-Steps-2 c = search rules
