use Rattle.lsm_lives.proofs.Lifetimes.{at_rest_holds, running_holds, stopped_holds}
use Rattle.lsm_lives.proofs.law.devices_hold_what_was_left.Goals as goal

pub returns-clause-at_rest : goal.returns-clause-at_rest
returns-clause-at_rest c = at_rest_holds

pub returns-clause-running : goal.returns-clause-running
returns-clause-running c = running_holds

pub returns-clause-stopped : goal.returns-clause-stopped
returns-clause-stopped c = stopped_holds
