use Rattle.std.proofs.Common.{ap, sym, ◌∙◌}
use Rattle.lsm_trail.specs.History.{Event}
use Rattle.lsm_trail.proofs.Shown.{shown_client}
use Rattle.lsm_trail.proofs.entry.TrailEntry.client.Goals as goal

pub returns : goal.returns
returns g c = sym (shown_client _ _ _ c.self.inside.beside.shown) ∙ ap (λ (e : Event). e.client) c.self.view_is
