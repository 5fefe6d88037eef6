use Rattle.std.proofs.Common.{◌∙◌, ap, sym}
use Rattle.lsm_store.specs.Memory.{is_stopped}
use Rattle.lsm_store.proofs.memory.Memory.is_stopped.Goals as goal

pub returns-in-Running : goal.returns-in-Running
returns-in-Running g c = sym (c.requires.agrees.stopped ∙ ap is_stopped c.in-Running.is)

pub returns-in-Stopped : goal.returns-in-Stopped
returns-in-Stopped g c = sym (c.requires.agrees.stopped ∙ ap is_stopped c.in-Stopped.is)
