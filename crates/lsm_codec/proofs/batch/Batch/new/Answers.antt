use Rattle.std.proofs.Common.{[], ◌∷◌}
use Rattle.lsm_codec.proofs.Spelled.{spells}
use Rattle.lsm_codec.proofs.batch.Batch.new.Goals as goal

pub invariant_of-result : goal.invariant_of-result
invariant_of-result g c = (spells c.in_ok-text.text.items (c.args.first ∷ []) c.in_ok-text.ensures.batch c.in_ok-text.ensures.text).0

pub returns : goal.returns
returns g c = (spells c.in_ok-text.text.items (c.args.first ∷ []) c.in_ok-text.ensures.batch c.in_ok-text.ensures.text).1
