use Rattle.lsm_extent.proofs.FirstFit.{surely_fit}
use Rattle.lsm_extent.proofs.extents.Extents.sure_room.Goals as goal

pub returns : goal.returns
returns g c = rw (← c.self.view_is) (surely_fit c.self.inside.held.items c.self.inside.blocks c.self.invariant)
