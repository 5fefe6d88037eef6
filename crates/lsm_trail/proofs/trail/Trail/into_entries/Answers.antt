use Rattle.std.proofs.Common.{ap}
use Rattle.lsm_trail.specs.History.{TrailView}
use Rattle.lsm_trail.proofs.trail.Trail.into_entries.Goals as goal

pub returns : goal.returns
returns g c = ap (λ (t : TrailView). t.log) c.self.view_is
