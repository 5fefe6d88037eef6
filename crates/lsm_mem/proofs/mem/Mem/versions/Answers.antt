use Rattle.std.proofs.Common.{subst}
use Rattle.lsm_codec.specs.Versions.{AreOrdered}
use Rattle.lsm_mem.specs.Histories.{plain}
use Rattle.lsm_mem.proofs.Ordered.{ordered-versions_of}
use Rattle.lsm_mem.proofs.mem.Mem.versions.Goals as goal

pub returns-clause-ordered : goal.returns-clause-ordered
returns-clause-ordered g c = subst AreOrdered c.self.view_is (ordered-versions_of (plain c.self.inside.histories.entries) c.self.invariant.0)
