use Rattle.std.proofs.Common.{ℕ, ◌==◌, length, ap, ◌∙◌}
use Rattle.lsm_trail.specs.History.{TrailView}
use Rattle.lsm_trail.proofs.trail.Trail.is_empty.Goals as goal

pub returns : goal.returns
returns g c = c.is_empty.ensures ∙ ap (λ (n : ℕ). n == 0) c.self.inside.entries.ok.0 ∙ ap (λ (t : TrailView). length t.log == 0) c.self.view_is
