use Rattle.std.proofs.Common.{ℕ, ◌==◌, ◌∙◌, ap}
use Rattle.lsm_store.proofs.WorkingMemory.{waits_told}
use Rattle.lsm_store.proofs.memory.Memory.is_waiting.Goals as goal

pub returns : goal.returns
returns g c =
    let m = c.args.self.now in
    waits_told m c.requires c.is_empty.result (c.is_empty.ensures ∙ ap (λ (n : ℕ). n == 0) m.regions.closed.ok.0)
