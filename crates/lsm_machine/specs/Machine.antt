-- A store as a machine, and its steps.
use Rattle.lsm_machine.specs.State.{State}
use Rattle.lsm_machine.specs.Calls.{Call}
use Rattle.lsm_machine.specs.Work.{WorkView, Work}

-- the state of the map that it serves, and its work on storage: where its versions are, and the jobs that move them
pub record Machine : Type 0 where
  pub state : State
  pub work : WorkView

pub data Step : Type 0 where
  -- a call
  Called : Call → Step
  -- a piece of work on a job
  Worked : Work → Step
