use Rattle.std.proofs.Common.{subst}
use Rattle.lsm_room.specs.Measuring.{AreEnoughFor}
use Rattle.lsm_room.proofs.Enough.{alone_enough}
use Rattle.lsm_room.proofs.bounds.alone.Goals as goal

pub returns : goal.returns
returns c =
    alone_enough c.args.live c.args.sizes c.outputs_for.result (subst (λ n. AreEnoughFor c.args.live n c.args.sizes.entries c.outputs_for.result) c.max.ensures c.outputs_for.ensures.enough)
    (λ low. (c.outputs_for.ensures.few low).1)
