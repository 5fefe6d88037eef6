use Rattle.std.proofs.Common.{subst}
use Rattle.lsm_lives.specs.Calls.{asked_of}
use Rattle.lsm_trail.specs.Entries.{IsOfStep}
use Rattle.lsm_trail.specs.History.{Event}
use Rattle.lsm_trail.proofs.Shown.{shown_step}
use Rattle.lsm_trail.proofs.entry.TrailEntry.step.Goals as goal

pub returns : goal.returns
returns g c = subst (λ (e : Event). IsOfStep e (asked_of c.self.inside.step)) c.self.view_is (shown_step _ _ _ c.self.inside.beside.shown _ c.self.invariant)
