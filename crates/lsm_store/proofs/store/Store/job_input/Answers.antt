use Rattle.std.proofs.Common.{subst}
use Rattle.std.specs.Arc.{arc_value}
use Rattle.std.specs.declared.sync.Arc.{Arc}
use Rattle.lsm_merge.specs.Inputs.{MergeInput}
use Rattle.lsm_store.specs.Backing.{StoreView}
use Rattle.lsm_machine.specs.Work.{Ask}
use Rattle.lsm_store.specs.Working.{Works}
use Rattle.lsm_machine.specs.Calls.{Handed, reply_of}
use Rattle.lsm_store.proofs.store.Store.job_input.Goals as goal

pub returns : goal.returns
returns g c = record {
  works =
      subst (λ (v : StoreView). Works v (Ask c.args.job) (reply_of (λ (input : Arc MergeInput g.row.A.Denot). Handed (arc_value input)) c.input.result) v) c.self.view_is
      (c.input.ensures.works (g.D.Device.medium c.self.inside.device) c.self.inside.cache);
}
