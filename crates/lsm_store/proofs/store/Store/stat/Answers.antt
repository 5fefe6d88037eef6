use Rattle.std.proofs.Common.{◌∙◌, ap}
use Rattle.lsm_store.specs.Backing.{StoreView, machine_of}
use Rattle.lsm_store.specs.Stats.{stat_answer}
use Rattle.lsm_store.proofs.store.Store.stat.Goals as goal

pub returns : goal.returns
returns g c = c.stat.ensures ∙ ap (λ (v : StoreView). stat_answer (machine_of v)) c.self.view_is
