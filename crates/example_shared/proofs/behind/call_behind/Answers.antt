use Rattle.std.proofs.Common.{◌≡◌, IfOk, subst}
use Rattle.lsm_lives.specs.Calls.{call_of, told_of}
use Rattle.lsm_shared.specs.Clients.{MakesCall}
use Rattle.example_shared.proofs.Following.{stands_behind}
use Rattle.example_shared.proofs.behind.call_behind.Goals as goal

pub returns : goal.returns
returns g c =
    let made = subst (λ r. IfOk r (λ x. MakesCall c.args.one (call_of c.args.first) (told_of x.1) x.0 × (x.2 ≡ x.0.seen))) c.in_ok-one.was c.join-told.ensures.first in
    stands_behind _ _ _ _ _ _ _ _ _ made.0 made.1 c.in_ok-answer.ensures
