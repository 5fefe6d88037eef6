use Rattle.std.proofs.Common.{ap, sym, ◌∙◌, subst}
use Rattle.lsm_trail.specs.Begins.{Begin}
use Rattle.lsm_trail.specs.History.{numbers}
use Rattle.lsm_trail.specs.Knowledge.{Known, Sees, known_of}
use Rattle.lsm_shared.proofs.client.Client.watch.Goals as goal

pub returns-clause-sees : goal.returns-clause-sees
returns-clause-sees g c = subst (λ (k : Known). Sees k (known_of c.watch.new.client)) c.self.view_is c.watch.ensures.sees

pub returns-clause-told : goal.returns-clause-told
returns-clause-told g c = c.watch.ensures.told ∙ ap (λ (b : Begin). numbers b (known_of c.watch.new.client).seen) (sym c.watch.ensures.client.2)
