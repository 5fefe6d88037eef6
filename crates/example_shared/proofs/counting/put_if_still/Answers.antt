use Rattle.example_shared.proofs.Making.{raises_if}
use Rattle.example_shared.proofs.counting.put_if_still.Goals as goal

pub returns : goal.returns
returns g c = raises_if _ _ _ _ _ c.is_added.result c.in_ok-reply.ensures.made c.is_added.ensures
