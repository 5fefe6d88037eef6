use Rattle.lsm_extent.proofs.Counting.{partition_of}
use Rattle.lsm_extent.proofs.extents.Extents.partition.Goals as goal

pub returns : goal.returns
returns g c = rw (← c.self.view_is) (partition_of c.self.inside.held.items c.self.inside.blocks c.self.invariant)
