use Rattle.std.proofs.Common.{subst}
use Rattle.std.specs.Prelude.{IsNone}
use Rattle.lsm_device.specs.Calls.{AtMost}
use Rattle.lsm_store.specs.Backing.{StoreView}
use Rattle.lsm_machine.specs.Calls.{CommitIf, Number, reply_of}
use Rattle.lsm_store.specs.Guarding.{AsksThenCommits}
use Rattle.lsm_store.specs.Memory.{view_of}
use Rattle.lsm_machine.specs.Refusals.{refusal}
use Rattle.lsm_store.specs.Serving.{Serves, reply_in}
use Rattle.lsm_store.proofs.store.Store.commit_if.Goals as goal

pub returns-clause-serves : goal.returns-clause-serves
returns-clause-serves g c =
    let new = view_of (g.D.Device.medium c.commit_if.new.device) c.commit_if.new.memory c.commit_if.new.cache in
    let call = CommitIf c.args.guards.now c.args.batch.now in
    subst (λ (v : StoreView). Serves v call (reply_in call new.state (reply_of (λ n. Number n) c.commit_if.result)) new) c.self.view_is c.commit_if.ensures.serves

pub returns-clause-asks : goal.returns-clause-asks
returns-clause-asks g c =
    let new = view_of (g.D.Device.medium c.commit_if.new.device) c.commit_if.new.memory c.commit_if.new.cache in
    subst (λ (v : StoreView). IsNone (refusal v.state (CommitIf c.args.guards.now c.args.batch.now)) → AsksThenCommits v c.args.guards.now c.args.batch.now c.commit_if.result new) c.self.view_is c.commit_if.ensures.asks

pub returns-clause-calls : goal.returns-clause-calls
returns-clause-calls g c =
    let new = (g.D.Device.medium c.commit_if.new.device).calls in
    subst (λ (v : StoreView). AtMost 2048 128 0 v.device.calls new) c.self.view_is c.commit_if.ensures.calls
