use Rattle.std.proofs.Common.{◌∙◌, arith}
use Rattle.lsm_merge.proofs.Steps.{settled_step, settled_all}
use Rattle.lsm_merge.proofs.keeping.settled.Goals as goal

pub loop-entry-preserved : goal.loop-entry-preserved
loop-entry-preserved g c =
    settled_step c.loop-entry.versions.items c.pop.new.self.items c.loop-entry.kept.items c.settle.new.kept.items c.in-Some.entry c.in-Some.ensures.items c.in_ok-settle.ensures
    ∙ c.loop-entry.invariant

pub returns : goal.returns
returns g c =
    settled_all c.args.versions.items c.loop-entry.versions.items c.loop-entry.kept.items c.reverse.new.self.items c.requires c.loop-entry.invariant (let e = c.in_default.ensures.cases.0 in let k = c.loop-entry.versions.ok in omega (arith, e, k)) c.reverse.ensures.items
