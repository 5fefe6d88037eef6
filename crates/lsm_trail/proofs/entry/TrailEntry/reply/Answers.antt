use Rattle.std.proofs.Common.{ap, ◌∙◌}
use Rattle.lsm_trail.specs.Entries.{told_in}
use Rattle.lsm_trail.specs.History.{Event}
use Rattle.lsm_trail.proofs.Shown.{shown_told}
use Rattle.lsm_trail.proofs.entry.TrailEntry.reply.Goals as goal

pub returns : goal.returns
returns g c = shown_told _ _ c.self.inside.reply c.self.inside.beside.shown c.self.invariant ∙ ap (λ (e : Event). told_in e.reply e.result) c.self.view_is
