use Rattle.std.proofs.Common.{length}
use Rattle.lsm_store.proofs.reading.+ask_guards.Given as goal

abbrev pub decreases-ask_guards : goal.decreases-ask_guards
decreases-ask_guards g l = length l.guards.now
