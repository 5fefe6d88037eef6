use Rattle.std.proofs.Common.{sym, ◌∙◌, ap, ltb, ◌&&◌, ◌+◌, ℕ}
use Rattle.lsm_extent.proofs.FirstFit.{surely_fit}
use Rattle.lsm_extent.proofs.extents.Extents.surely_places.Goals as goal

pub returns-clause-test : goal.returns-clause-test
returns-clause-test g c =
    let starts = rw c.deref.ensures.value at c.starts_among-starts.ensures.value in
    rw (← c.self.view_is) (c.is_sure.ensures ∙ ap (λ (n : ℕ). ltb 0 n && ltb c.args.total (n + c.args.largest)) starts)

pub returns-clause-sure : goal.returns-clause-sure
returns-clause-sure g c =
    let starts = rw c.deref.ensures.value at c.starts_among-starts.ensures.value in
    rw (← c.self.view_is) (λ sure. surely_fit c.self.inside.held.items c.self.inside.blocks c.self.invariant c.args.total c.args.largest (sym (c.is_sure.ensures ∙ ap (λ (n : ℕ). ltb 0 n && ltb c.args.total (n + c.args.largest)) starts) ∙ sure))
