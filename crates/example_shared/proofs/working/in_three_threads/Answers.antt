use Rattle.std.proofs.Common.{ap}
use Rattle.lsm_trail.specs.Knowledge.{SessionId}
use Rattle.example_shared.proofs.Ending.{ends_with_three}
use Rattle.example_shared.proofs.working.in_three_threads.Goals as goal

pub returns-in-Ok-finish : goal.returns-in-Ok-finish
returns-in-Ok-finish g c = ends_with_three _ _ (ap (λ (id : SessionId). id.begin) c.requires.session) _ _ _ _ _ c.in-Ok-finish.ensures.ended
    _ _ _ _ c.in-Some.ensures.one c.in-Some.ensures.two c.in_ok-crew.ensures.one c.in_ok-crew.ensures.two _ _ c.in-Some.ensures.worker c.in_ok-crew.ensures.worker c.in_ok-clients.ensures c.requires.clients
