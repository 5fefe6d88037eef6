use Rattle.example_shared.proofs.Following.{comes_behind}
use Rattle.example_shared.proofs.behind.hear_and_make.Goals as goal

pub returns : goal.returns
returns g c = comes_behind _ _ _ _ _ _ c.hear.ensures.sees c.hear.ensures.heard c.in_ok-reply.ensures.made
