use Rattle.lsm_store.proofs.Checking.{passes_running, refuses_stopped}
use Rattle.lsm_store.proofs.memory.Memory.check_running.Goals as goal

pub returns-in-Running-clause-refused : goal.returns-in-Running-clause-refused
returns-in-Running-clause-refused g c = passes_running c.args.self.now c.requires.agrees.stopped c.in-Running.is

pub returns-in-Stopped-clause-refused : goal.returns-in-Stopped-clause-refused
returns-in-Stopped-clause-refused g c = refuses_stopped c.args.self.now c.requires.agrees.stopped c.in-Stopped.is
