use Rattle.std.proofs.Common.{◌∙◌, ap}
use Rattle.lsm_machine.specs.Calls.{Sync, Done}
use Rattle.lsm_machine.specs.Run.{next}
use Rattle.lsm_machine.specs.State.{State}
use Rattle.example_store.proofs.put_synced.Goals as goal

pub returns-clause-backed : goal.returns-clause-backed
returns-clause-backed c = λ backed. c.in_ok-sync.ensures.serves.backed (c.in_ok-commit.ensures.serves.backed backed)

pub returns-clause-state : goal.returns-clause-state
returns-clause-state c = (c.in_ok-commit.field-0, c.in_ok-sync.ensures.serves.state ∙ ap (λ (s : State). next s Sync Done) c.in_ok-commit.ensures.serves.state)
