use Rattle.std.proofs.Common.{ap}
use Rattle.lsm_trail.specs.Knowledge.{SessionId}
use Rattle.example_shared.proofs.Ending.{ends_with_two}
use Rattle.example_shared.proofs.session.in_two_threads.Goals as goal

pub returns-in-Ok-finish : goal.returns-in-Ok-finish
returns-in-Ok-finish g c = ends_with_two _ _ (ap (λ (id : SessionId). id.begin) c.requires.session) _ _ _ _ _ c.in-Ok-finish.ensures.ended
    _ _ _ _ c.in-Some.ensures.0 c.in-Some.ensures.1 c.in_ok-one.ensures.one c.in_ok-one.ensures.two c.in_ok-clients.ensures c.requires.clients
