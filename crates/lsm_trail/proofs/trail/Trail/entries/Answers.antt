use Rattle.std.proofs.Common.{ap, ◌∙◌}
use Rattle.lsm_trail.specs.History.{TrailView}
use Rattle.lsm_trail.proofs.trail.Trail.entries.Goals as goal

pub returns : goal.returns
returns g c = c.as_slice.ensures.value ∙ ap (λ (t : TrailView). t.log) c.self.view_is
