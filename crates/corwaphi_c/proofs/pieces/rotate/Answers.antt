use Rattle.lsm_upkeep.proofs.Upkept.{rotates}
use Rattle.corwaphi_c.proofs.pieces.rotate.Goals as goal

pub returns : goal.returns
returns g c = rotates c.args.store.now c.rotate.new.self _ c.rotate.ensures.serves
