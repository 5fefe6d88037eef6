use Rattle.std.proofs.Common.{◌∷◌, [], refl, subst}
use Rattle.lsm_codec.specs.Keys.{Bytes}
use Rattle.lsm_room.specs.Measuring.{AreEnoughAt}
use Rattle.lsm_room.proofs.Making.{cut_makes}
use Rattle.lsm_room.proofs.divided.cut_outputs.Goals as goal

pub returns : goal.returns
returns g c = λ low levels.
    cut_makes levels c.args.live _ c.in_ok-table.ensures.0 c.in_ok-table.table.now (c.args.key.now ∷ []) c.args.key.now c.parts_of.result c.in_ok-table.ensures.1 refl
    (subst (λ (key : Bytes). AreEnoughAt c.args.live key c.in_ok-table.table.now c.parts_of.result) c.as_slice.ensures.same c.parts_of.ensures) low
