use Rattle.std.proofs.Common.{subst}
use Rattle.std.specs.Prelude.{MatchResult}
use Rattle.lsm_store.specs.Backing.{StoreView}
use Rattle.lsm_machine.specs.Calls.{Done}
use Rattle.lsm_store.specs.Memory.{view_of}
use Rattle.lsm_store.specs.Merging.{IsMerged, RefusesMerge}
use Rattle.lsm_store.proofs.store.Store.job_merge.Goals as goal

pub invariant_of-self : goal.invariant_of-self
invariant_of-self g c = (c.merge.ensures.kept, c.merge.ensures.inside (g.D.Device.medium c.self.inside.device).size c.self.invariant.1)

pub returns : goal.returns
returns g c = record {
  works =
      let medium = g.D.Device.medium c.self.inside.device in
      let new = view_of medium c.merge.new.memory c.self.inside.cache in
      subst (λ (v : StoreView). MatchResult c.merge.result (λ _. IsMerged c.args.job c.args.divisions.items Done v new) (λ refusal. RefusesMerge c.args.job c.args.divisions.items refusal v new)) c.self.view_is (c.merge.ensures.works medium c.self.inside.cache c.self.invariant.1 (λ tells. (g.met.D.Device.sound c.self.inside.device tells).now.size));
}
