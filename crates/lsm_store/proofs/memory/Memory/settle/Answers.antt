use Rattle.std.proofs.Common.{Bool, sym, ◌∙◌, ap}
use Rattle.lsm_open.specs.Layout.{layout_of}
use Rattle.lsm_store.specs.InstalledMemory.{settled_layout}
use Rattle.lsm_store.proofs.memory.Memory.settle.Goals as goal

pub returns-clause-layout : goal.returns-clause-layout
returns-clause-layout g c =
    let l = layout_of c.args.self.now.regions in
    (λ i. record l { base = c.settled_base-self.ensures i; closed = c.clear.ensures.items i }) ∙ sym (ap (λ (b : Bool). settled_layout b c.args.self.now.count l) c.if-not-flush.false)
