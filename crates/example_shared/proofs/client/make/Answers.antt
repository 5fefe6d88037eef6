use Rattle.std.proofs.lemmas.Result.{on_ok_weaker}
use Rattle.example_shared.proofs.Making.{makes}
use Rattle.example_shared.proofs.client.make.Goals as goal

pub returns : goal.returns
returns g c = on_ok_weaker _ (λ answer. makes _ _ _ _ answer c.in_ok-reply.ensures.made) c.answered.ensures
