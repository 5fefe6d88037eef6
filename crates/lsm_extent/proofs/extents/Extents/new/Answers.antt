use Rattle.std.proofs.Common.{refl}
use Rattle.lsm_extent.proofs.extents.Extents.new.Goals as goal

pub returns : goal.returns
returns g c = rw c.new-held.ensures.items refl
